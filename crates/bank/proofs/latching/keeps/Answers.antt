-- `bank::latching::keeps` meets its contract.
-- Assumes nothing.
use native.Mathlib.Omega.{arith}
use Rattle.bank.proofs.latching.LatchCases.{keeps-held, keeps-none}
use Rattle.bank.proofs.latching.keeps.Goals as goal

pub returns-then-b-count : goal.returns-then-b-count
returns-then-b-count c =
    let a = c.args in
    keeps-held a.blocks.bank.now a.number a.b (omega (arith, c.count.ensures, c.if-b-count.true)) c.due.ensures

pub returns : goal.returns
returns c =
    let a = c.args in
    keeps-none a.blocks.bank.now a.number a.b (omega (arith, c.count.ensures, c.if-b-count.false))
