-- `bank::latching::scan_from` meets its contract.
-- Assumes nothing.
use native.Mathlib.Omega.{arith}
use Rattle.bank.proofs.latching.LatchCases.{from_some, from-none}
use Rattle.bank.proofs.latching.scan_from.Goals as goal

pub returns-then-block-count : goal.returns-then-block-count
returns-then-block-count c =
    let a = c.args in
    from_some a.blocks.bank.now a.number a.b _ _ c.next_due-block.ensures (omega (arith, c.count.ensures, c.if-block-count.true))

pub returns : goal.returns
returns c =
    let a = c.args in
    from-none a.blocks.bank.now a.number a.b _ _ c.next_due-block.ensures (omega (arith, c.count.ensures, c.if-block-count.false))
