-- `find_place` finds where cell k lies.
-- Assumes nothing.
use mathlib.Core.Path.{◌≡◌, refl, sym, ◌∙◌, ap, ap₂}
use Prim.Native.Nat.{ℕ, ◌+◌}
use native.Mathlib.Omega.{arith}
use lib.Dec.{eqb}
use borrow.Author.Tests.{ne_eqb}
use Rattle.stored_spec.specs.RowBytes.{two_bytes}
use Rattle.stored_spec.specs.StoredForm.{record_count}
use Rattle.stored_spec.proofs.StoredCells.{begin}
use Rattle.stored.specs.Places.{CellPlace}
use Rattle.stored.proofs.CellPlaces.{between_same, no_cells, place_all, begin_all, place_past, top_below}
use Rattle.stored.proofs.CellSteps.{cell_power, cells_same, cell_few, cell_counted, cut_there}
use Rattle.stored.proofs.CellFound.{place_found, not_yet}
use Rattle.stored.proofs.Walks.{cell_begun}
use Rattle.stored.proofs.places.find_place.Goals.{in-Some+else-here, in_default}
use Rattle.stored.proofs.places.find_place.Goals as goal

pub loop-i-init : goal.loop-i-init
loop-i-init c =
    let R = c.args.records.now in
    let y = no_cells R (record_count R) c.args.k in
    (c.start-walk.ensures R, sym y.1, sym (begin two_bytes R).1, omega arith, omega (arith, y.0))

pub overflow_shl-end : goal.overflow_shl-end
overflow_shl-end c =
    let few = cell_few _ _ c.next.ensures.0 c.in-Some.is _ c.requires.1 c.loop-i-test.true in
    omega (arith, few.0)

pub overflow_add-end : goal.overflow_add-end
overflow_add-end c =
    let few = cell_few _ _ c.next.ensures.0 c.in-Some.is _ c.requires.1 c.loop-i-test.true in
    let p = cell_power few.0 in
    omega (arith, p.0, p.1, c.loop-i.invariant.3, c.requires.0)

pub returns-then-here : goal.returns-then-here
returns-then-here c =
    let R = c.args.records.now in
    let l = c.loop-i in
    let on = c.next.ensures.0 in
    let few = cell_few R l.i on c.in-Some.is two_bytes c.requires.1 c.loop-i-test.true in
    let at = sym (cell_begun R l.i l.invariant.0) ∙ c.if-here.true in
    let end = ap₂ (λ (x y : ℕ). x + y) l.invariant.2 (cell_power few.0).0 ∙ sym (cell_counted R l.i on c.in-Some.is) in
    let found = between_same l.invariant.1 refl l.invariant.2 end ∙ place_found R l.i c.args.k (cut_there R l.i on c.in-Some.is).0 at c.loop-i-test.true (record_count R) in
    (λ h. found ∙ place_all R c.args.k h, λ h. ap (λ (q : CellPlace). q.at) found ∙ begin_all R c.args.k h)

pub loop-i-preserved : goal.loop-i-preserved
loop-i-preserved c =
    let R = c.args.records.now in
    let l = c.loop-i in
    let k = c.args.k in
    let on = c.next.ensures in
    let at = cell_begun R l.i l.invariant.0 in
    elim c.match-next.branch [
      | in-Some+else-here w ↦
          let cut = (cut_there R l.i on.0 w.in-Some.is).0 in
          let few = cell_few R l.i on.0 w.in-Some.is two_bytes c.requires.1 c.loop-i-test.true in
          let p = cell_power few.0 in
          let counted = cell_counted R l.i on.0 w.in-Some.is in (
            on.1,
            w.top-is ∙ top_below R l.i (record_count R) cut,
            omega (arith, w.at-is, p.0, l.invariant.2, counted),
            omega (arith, w.at-is, p.0, p.1, l.invariant.3),
            not_yet R l.i k _ cut (ap (λ (n : ℕ). eqb n k) (sym at) ∙ ne_eqb _ _ w.if-here.false) l.invariant.4,
          )
      | in_default w ↦
          let same = cells_same R l.i on.0 w.in_default.is in
          (on.1, rw same (w.top-is ∙ l.invariant.1), rw same (w.at-is ∙ l.invariant.2), omega (arith, w.at-is, l.invariant.3), rw same l.invariant.4)
    ]

pub returns : goal.returns
returns c =
    let R = c.args.records.now in
    let e : c.loop-i.i ≡ record_count R = omega arith in
    let none = place_past R (record_count R) c.args.k (rw e at c.loop-i.invariant.4) in
    (λ h. none ∙ place_all R c.args.k h, λ h. ap (λ (q : CellPlace). q.at) none ∙ begin_all R c.args.k h)
