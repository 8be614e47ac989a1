-- `reduction::node_words::node_over` meets its contract.
-- Assumes nothing.
use mathlib.Core.Path.{refl, ap₂}
use Rattle.reduction_spec.specs.Diagram.{node}
use Rattle.reduction.specs.Lowering.{node_over}
use Rattle.reduction.proofs.node_words.node_over.Goals as goal

pub returns-then-input : goal.returns-then-input
unfolding node_over
returns-then-input c = rw c.if-input.true refl

pub returns : goal.returns
unfolding node_over
returns c = rw c.if-input.false (ap₂ (node c.args.height) c.allowed.ensures c.allowed-2.ensures)
