-- `sheet::depends::above_mask` meets its contract.
-- Assumes nothing.
use mathlib.Core.Path.{◌≡◌, refl}
use native.Mathlib.Omega.{arith}
use borrow.Author.Rules.{rules}
use Rattle.sheet.proofs.Shifts.{shifted}
use Rattle.sheet.specs.Depends.{above_mask}
use Rattle.sheet.proofs.depends.TurnedPlaces.{above_yes, above_no}
use Rattle.sheet.proofs.depends.above_mask.Goals as goal
use Rattle.sheet.proofs.depends.above_mask.Goals.{then-place_of-bottom, else-place_of-bottom}

pub loop-o-init : goal.loop-o-init
unfolding above_mask
loop-o-init c =
    (search rules, refl)

pub loop-o-preserved : goal.loop-o-preserved
loop-o-preserved c =
    let a = c.args in
    let p = c.place_of-bottom.ensures in
    let q = c.place_of.ensures in
    elim c.if-place_of-bottom.branch [
      | then-place_of-bottom w ↦ (
        omega (arith, shifted c.loop-o.o 18446744073709551616 (omega arith) (omega arith), above_yes a.job.now.order.now a.v c.loop-o.o c.loop-o.invariant.1 c.loop-o.invariant.0 p q w.if-place_of-bottom.true),
        omega (arith, shifted c.loop-o.o 18446744073709551616 (omega arith) (omega arith), above_yes a.job.now.order.now a.v c.loop-o.o c.loop-o.invariant.1 c.loop-o.invariant.0 p q w.if-place_of-bottom.true),
      )
      | else-place_of-bottom w ↦ (
        omega (arith, above_no a.job.now.order.now a.v c.loop-o.o c.loop-o.invariant.1 c.loop-o.invariant.0 p q w.if-place_of-bottom.false),
        omega (arith, above_no a.job.now.order.now a.v c.loop-o.o c.loop-o.invariant.1 c.loop-o.invariant.0 p q w.if-place_of-bottom.false),
      )
    ]

pub returns : goal.returns
returns c =
    let e : c.loop-o.o ≡ c.args.job.now.m = omega arith in
    (rw e at c.loop-o.invariant.1, rw e at c.loop-o.invariant.0)
