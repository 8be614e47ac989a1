-- The measure of `walks::walks::compatible_nodes`: the height.
-- Assumes nothing.
use Rattle.walks.proofs.walks.+compatible_nodes.Given as goal

abbrev pub decreases-compatible_nodes : goal.decreases-compatible_nodes
decreases-compatible_nodes l = l.h
