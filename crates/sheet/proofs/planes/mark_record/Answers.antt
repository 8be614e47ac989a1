-- `sheet::planes::mark_record` meets its contract.
-- Assumes nothing.
use mathlib.Core.Path.{sym, ap, ap₂, ◌∙◌, ◌≡◌}
use Prim.Native.Nat.{ℕ, ◌*◌}
use native.Mathlib.Omega.{arith}
use borrow.Author.Tests.{eq-eqb, ne_eqb}
use lib.Dec.{eqb}
use lib.Bits.{bit_and}
use Rattle.laws.specs.Lists.{puts}
use Rattle.laws.proofs.Puts.{puts_none}
use Rattle.sheet.proofs.planes.PlaceBlocks.{marked_none, block-hit, block_miss, marked}
use Rattle.sheet.proofs.planes.mark_record.Goals as goal
use Rattle.sheet.proofs.planes.mark_record.Goals.{then-b-from, else-b-from}

pub returns-then-f-eq0 : goal.returns-then-f-eq0
unfolding marked
returns-then-f-eq0 t c =
    let a = c.args in
    let e : a.f ≡ 0 = omega arith in
    marked_none a.plane.now a.k a.v t.row.N ∙ ap (λ (f : ℕ). puts t.row.N (marked a.plane.now a.k a.v f) a.plane.now) (sym e)

pub loop-b-init : goal.loop-b-init
loop-b-init t c =
    let a = c.args in
    sym (puts_none (marked a.plane.now a.k a.v a.f) a.plane.now)

pub loop-b-preserved : goal.loop-b-preserved
loop-b-preserved t c =
    let l = c.loop-b in
    let a = c.args in
    let tests = ap₂ (λ (x y : ℕ). eqb (bit_and l.b x) y) c.from.ensures c.from-in-loop-b.ensures in elim c.if-b-from.branch [
      | then-b-from w ↦
          w.plane-is ∙ w.mark_block.ensures
          ∙ block-hit a.plane.now l.plane a.k a.v a.f l.b l.invariant a.low.now.numbers a.low.now.up
          (sym tests ∙ eq-eqb _ _ w.if-b-from.true)
      | else-b-from w ↦ w.plane-is ∙ block_miss a.plane.now l.plane a.k a.v a.f l.b l.invariant (sym tests ∙ ne_eqb _ _ w.if-b-from.false)
    ]

pub returns : goal.returns
unfolding marked
returns t c =
    let l = c.loop-b in
    let e : l.b * 256 ≡ t.row.N = omega arith in
    rw e at l.invariant
