-- `store_rows` stores rows as pairs of bytes.
-- Assumes nothing.
use mathlib.Core.Path.{◌≡◌, refl, sym}
use native.Mathlib.Omega.{arith}
use Rattle.laws.proofs.Puts.{puts_none}
use Rattle.cutting.specs.Plan.{row_byte}
use Rattle.cutting.proofs.row_bytes.BytesPut.{pair-next}
use Rattle.cutting.proofs.row_bytes.store_rows.Goals as goal

pub loop-i-init : goal.loop-i-init
loop-i-init c = sym (puts_none (row_byte c.args.from.now) c.args.to.now)

pub loop-i-preserved : goal.loop-i-preserved
loop-i-preserved c =
    let l = c.loop-i in
    let a = c.args in
    pair-next a.from.now a.to.now l.to l.i _ _ l.invariant refl refl

pub returns : goal.returns
returns c =
    let l = c.loop-i in
    let e : l.i ≡ c.args.count = omega arith in
    rw e at l.invariant
