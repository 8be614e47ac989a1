-- The measure of `walks::walks::walk_to`: the height.
-- Assumes nothing.
use Rattle.walks.proofs.walks.+walk_to.Given as goal

abbrev pub decreases-walk_to : goal.decreases-walk_to
decreases-walk_to l = l.h
