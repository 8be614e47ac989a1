-- `rows_of` counts the rows of all cells that fit.
-- Assumes nothing.
use mathlib.Core.Path.{◌≡◌, sym, ◌∙◌, ap}
use Prim.Native.Nat.{ℕ}
use native.Mathlib.Omega.{arith}
use Rattle.std.specs.Prelude.{Some}
use Rattle.laws.proofs.Cases.{cond_yes, cond_no, and_join}
use Rattle.stored_spec.specs.StoredForm.{record_count}
use Rattle.stored_spec.proofs.CellSizes.{fits-split}
use Rattle.stored_spec.proofs.StoredCells.{cells_to, row_sum, begin, fit_all_lem, rows_all}
use Rattle.stored.proofs.CellSteps.{cell_power, cells_same, cell_fit, cell_over, cell_counted}
use Rattle.stored.proofs.formed.rows_of.Goals.{in-Some+else-not-fits, in_default}
use Rattle.stored.proofs.formed.rows_of.Goals as goal

pub loop-i-init : goal.loop-i-init
loop-i-init c =
    let R = c.args.records.now in
    let z = begin c.args.size R in
    (c.start-walk.ensures R, z.0, sym z.1, omega arith)

pub returns-then-not-fits : goal.returns-then-not-fits
returns-then-not-fits c =
    sym (cond_no _ _ _ (cell_over _ _ c.next.ensures.0 c.in-Some.is _ c.loop-i-test.true (sym c.fits.ensures ∙ c.if-not-fits.true)))

pub overflow_shl-rows : goal.overflow_shl-rows
overflow_shl-rows c = let few = (fits-split _ _ _ (sym c.fits.ensures ∙ c.if-not-fits.false)).0 in omega (arith, few)

pub overflow_add-rows : goal.overflow_add-rows
overflow_add-rows c =
    let p = cell_power (fits-split _ _ _ (sym c.fits.ensures ∙ c.if-not-fits.false)).0 in
    omega (arith, p.0, p.1, c.loop-i.invariant.3, c.requires.0)

pub loop-i-preserved : goal.loop-i-preserved
loop-i-preserved c =
    let l = c.loop-i in
    let R = c.args.records.now in
    let on = c.next.ensures in
    elim c.match-next.branch [
      | in-Some+else-not-fits w ↦
          let fit = sym w.fits.ensures ∙ w.if-not-fits.false in
          let p = cell_power (fits-split _ _ _ fit).0 in
          let counted = cell_counted R l.i on.0 w.in-Some.is in (
            on.1,
            cell_fit R l.i on.0 w.in-Some.is _ ∙ and_join l.invariant.1 fit,
            omega (arith, w.rows-is, p.0, l.invariant.2, counted),
            omega (arith, w.rows-is, p.0, p.1, l.invariant.3),
          )
      | in_default w ↦
          let same = cells_same R l.i on.0 w.in_default.is in
          (on.1, rw same l.invariant.1, rw same (w.rows-is ∙ l.invariant.2), omega (arith, w.rows-is, l.invariant.3))
    ]

pub returns : goal.returns
returns c =
    let R = c.args.records.now in
    let l = c.loop-i in
    let e : l.i ≡ record_count R = omega arith in
    let all = sym (fit_all_lem _ R) ∙ rw e at l.invariant.1 in
    ap Some (l.invariant.2 ∙ ap (λ (i : ℕ). row_sum (cells_to R i)) e ∙ rows_all R) ∙ sym (cond_yes _ _ _ all)
