-- `panel_calls::known` meets its contract.
-- Assumes nothing.
use mathlib.Core.Path.{refl}
use Rattle.refusals.proofs.Promises.{never-zero}
use Rattle.panel_calls.proofs.LentOutputs.{lent-certain, lent-kept}
use Rattle.panel_calls.proofs.known.Goals as goal

pub returns-in-Ok : goal.returns-in-Ok
returns-in-Ok c = let a = c.args in lent-certain a.records.now a.rows.now a.known a.word a.outputs.now _ c.in-Ok.ensures refl

pub returns-in-Err : goal.returns-in-Err
returns-in-Err c =
    let a = c.args in
    rw c.from.ensures (lent-kept a.records.now a.rows.now a.known a.word a.outputs.now _ c.in-Err.ensures (never-zero c.in-Err.unformed))
