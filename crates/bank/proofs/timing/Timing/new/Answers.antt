-- `bank::timing::Timing::new` meets its contract.
-- Assumes nothing.
use mathlib.Core.Path.{sym, ◌∙◌}
use native.Mathlib.Omega.{arith}
use Rattle.bank_spec.proofs.Promises.{timed-small}
use Rattle.bank.proofs.timing.Timing.new.Goals as goal

pub overflow_cast-result : goal.overflow_cast-result
overflow_cast-result c =
    let a = c.args in
    omega (arith, (timed-small a.period a.phase (sym c.timed.ensures ∙ c.if-timed.true)).0)

pub overflow_cast-result-then-timed : goal.overflow_cast-result-then-timed
overflow_cast-result-then-timed c =
    let a = c.args in
    omega (arith, (timed-small a.period a.phase (sym c.timed.ensures ∙ c.if-timed.true)).1)
