-- `node_table::compile_whole` meets its contract.
-- Assumes nothing.
use mathlib.Core.Path.{ap}
use Rattle.node_table.specs.Nodes.{without_nodes, empty_table, whole_outcome}
use Rattle.node_table.proofs.compile_whole.Goals as goal

pub returns : goal.returns
unfolding whole_outcome empty_table
returns c = ap without_nodes c.compile.ensures
