-- `bank::timing::Timing::due` meets its contract.
-- Assumes nothing.
use native.Mathlib.Omega.{arith}
use Rattle.bank.proofs.timing.DueTests.{due_by, period_8}
use Rattle.bank.proofs.timing.Timing.due.Goals as goal

pub returns-in-1 : goal.returns-in-1
returns-in-1 c = let a = c.args in due_by a.self.period a.self.phase a.number c.in-1.is

pub returns-in-2 : goal.returns-in-2
returns-in-2 c = let a = c.args in due_by a.self.period a.self.phase a.number c.in-2.is

pub returns-in-4 : goal.returns-in-4
returns-in-4 c = let a = c.args in due_by a.self.period a.self.phase a.number c.in-4.is

pub returns-in_default : goal.returns-in_default
returns-in_default c =
    let a = c.args in
    let h = c.in_default in
    due_by a.self.period a.self.phase a.number
    (period_8 a.self.period a.self.phase a.self.timed (λ e. absurd (omega arith)) (λ e. absurd (omega arith)) (λ e. absurd (omega arith)))
