-- `bank::blocks::Blocks::due` meets its contract.
-- Assumes nothing.
use mathlib.Core.Path.{◌∙◌}
use Rattle.bank.proofs.timing.DueTests.{due_here}
use Rattle.bank.proofs.blocks.Blocks.due.Goals as goal

pub returns : goal.returns
returns c =
    let a = c.args in
    let t = c.timing.ensures in
    c.due.ensures ∙ due_here a.self.bank.now a.number a.b t.0 t.1
