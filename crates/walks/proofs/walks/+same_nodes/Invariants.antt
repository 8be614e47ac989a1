-- The measure of `walks::walks::same_nodes`: the height.
-- Assumes nothing.
use Rattle.walks.proofs.walks.+same_nodes.Given as goal

abbrev pub decreases-same_nodes : goal.decreases-same_nodes
decreases-same_nodes l = l.h
