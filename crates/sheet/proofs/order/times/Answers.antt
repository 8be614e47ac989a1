-- `times` counts a byte in the order.
-- Assumes nothing.
use mathlib.Core.Bool.{Bool}
use mathlib.Core.Path.{◌≡◌, sym, ◌∙◌}
use Prim.Native.Nat.{ℕ}
use native.Mathlib.Omega.{arith}
use borrow.Author.Tests.{eq-eqb, ne_eqb}
use lib.Dec.{eqb}
use lib.ListN.{length, get_or}
use Rattle.laws.proofs.Counts.{count_yes, count_no}
use Rattle.sheet_spec.specs.Refusals.{times}
use Rattle.sheet.proofs.order.times.Goals as goal
use Rattle.sheet.proofs.order.times.Goals.{then-from-v, else-from-v}

pub loop-x-preserved : goal.loop-x-preserved
loop-x-preserved c =
    let a = c.args in
    let p : ℕ → Bool = λ k. eqb (get_or a.order.now k 0) a.v in
    elim c.if-from-v.branch [
      | then-from-v w ↦ omega (arith, count_yes p c.loop-x.x-index (eq-eqb _ _ (sym c.from.ensures ∙ w.if-from-v.true)))
      | else-from-v w ↦ omega (arith, count_no p c.loop-x.x-index (ne_eqb _ _ (λ q. w.if-from-v.false (c.from.ensures ∙ q))))
    ]

pub returns : goal.returns
unfolding times
returns c =
    let e : c.loop-x.x-index ≡ length c.args.order.now = omega arith in
    rw e at c.loop-x.invariant.1
