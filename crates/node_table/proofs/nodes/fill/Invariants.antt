-- The loop of `node_table::nodes::fill`: the first i nodes are stored.
-- Assumes nothing.
use Rattle.std.proofs.Common.{◌≡◌}
use Rattle.laws.specs.Lists.{puts}
use Rattle.node_table.specs.Nodes.{node_in}
use Rattle.node_table.proofs.nodes.fill.Given as goal

abbrev pub invariant-loop-i : goal.invariant-loop-i
invariant-loop-i l = l.nodes ≡ puts l.i (node_in l.words) l.initial.nodes
