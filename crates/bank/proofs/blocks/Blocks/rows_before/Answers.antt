-- `bank::blocks::Blocks::rows_before` meets its contract.
-- Assumes nothing.
use mathlib.Core.Path.{◌≡◌}
use native.Mathlib.Omega.{arith}
use Rattle.bank.proofs.formed.HeldBlocks.{no_rows, rows_next}
use Rattle.bank.proofs.blocks.Blocks.rows_before.Goals as goal

pub loop-b-init : goal.loop-b-init
loop-b-init c = (no_rows c.args.self.bank.now, omega arith)

pub overflow_add-rows : goal.overflow_add-rows
overflow_add-rows c = let few = c.args.self.few in omega (arith, few, c.rows-rows.ensures.1, c.loop-b.invariant.1, c.requires)

pub loop-b-preserved : goal.loop-b-preserved
loop-b-preserved c =
    let l = c.loop-b in
    let h = c.rows-rows.ensures in
    (rows_next c.args.self.bank.now l.b l.invariant.0 h.0, omega (arith, h.1, l.invariant.1))

pub returns : goal.returns
returns c =
    let l = c.loop-b in
    let few = c.args.self.few in
    let e : l.b ≡ c.args.n = omega arith in
    (rw e at l.invariant.0, omega (arith, few, c.requires, l.invariant.1))
