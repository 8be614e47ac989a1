-- The measure of `walks::walks::descend`: the number of heights left.
-- Assumes nothing.
use Rattle.walks.proofs.walks.+descend.Given as goal

abbrev pub decreases-descend : goal.decreases-descend
decreases-descend l = l.k
