-- `cutting::cells::write_cells` meets its contract.
-- Assumes nothing.
use mathlib.Core.Path.{◌≡◌, refl, ◌∙◌, ap}
use Prim.Native.Nat.{◌<◌}
use lib.ListN.{length}
use Rattle.cutting.specs.Levels.{rails_of, inputs_of}
use Rattle.cutting.specs.Plan.{rows_to, rows_stored}
use Rattle.cutting.proofs.cells.RowsStored.{rows_to-next, rows_to_end, rows_of_is, rows_stored-next, length-rows_stored}
use native.Mathlib.Omega.{arith}
use Rattle.cutting.proofs.cells.write_cells.Goals as goal

pub loop-i-init : goal.loop-i-init
unfolding rows_to rows_stored
loop-i-init c = (refl, refl)

pub write_cell-at-requires : goal.write_cell-at-requires
write_cell-at-requires c =
    let l = c.loop-i in
    let a = c.args in
    let p = c.requires in
    let h : l.i < a.plan.now.cells = omega (arith, c.loop-i-test.true, c.from-i-end.ensures) in
    let top = c.from-top in
    let bottom = c.from-bottom in (
      rw (top.ensures, bottom.ensures) (p.1 l.i h),
      omega (
        arith,
        l.invariant.0,
        rows_of_is (rails_of a.plan.now.levels) (inputs_of a.plan.now.levels) a.plan.now.cuts l.i top.result bottom.result top.ensures bottom.ensures,
        rows_to_end (rails_of a.plan.now.levels) (inputs_of a.plan.now.levels) a.plan.now.cuts l.i a.plan.now.cells h,
        p.2,
        ap length l.invariant.1 ∙ length-rows_stored (length a.diagram.now.order.now) a.diagram.now.words.now a.diagram.now.order.now a.diagram.now.widths.now (rails_of a.plan.now.levels) (inputs_of a.plan.now.levels) a.plan.now.cuts l.i a.rows.now,
      ),
    )

pub overflow_add-at : goal.overflow_add-at
overflow_add-at c =
    let l = c.loop-i in
    let a = c.args in
    let p = c.requires in
    let h : l.i < a.plan.now.cells = omega (arith, c.loop-i-test.true, c.from-i-end.ensures) in
    let top = c.from-top in
    let bottom = c.from-bottom in
    omega (
      arith,
      l.invariant.0,
      c.write_cell-at.ensures.value,
      rows_of_is (rails_of a.plan.now.levels) (inputs_of a.plan.now.levels) a.plan.now.cuts l.i top.result bottom.result top.ensures bottom.ensures,
      rows_to_end (rails_of a.plan.now.levels) (inputs_of a.plan.now.levels) a.plan.now.cuts l.i a.plan.now.cells h,
      p.2,
    )

pub loop-i-preserved : goal.loop-i-preserved
loop-i-preserved c =
    let l = c.loop-i in
    let a = c.args in
    let h : l.i < a.plan.now.cells = omega (arith, c.loop-i-test.true, c.from-i-end.ensures) in
    let top = c.from-top in
    let bottom = c.from-bottom in
    let w = c.write_cell-at in (
      omega (
        arith,
        l.invariant.0,
        w.ensures.value,
        rows_to-next (rails_of a.plan.now.levels) (inputs_of a.plan.now.levels) a.plan.now.cuts l.i,
        rows_of_is (rails_of a.plan.now.levels) (inputs_of a.plan.now.levels) a.plan.now.cuts l.i top.result bottom.result top.ensures bottom.ensures,
      ),
      w.ensures.rows_after
          ∙ rows_stored-next (length a.diagram.now.order.now) a.diagram.now.words.now a.diagram.now.order.now a.diagram.now.widths.now (rails_of a.plan.now.levels) (inputs_of a.plan.now.levels) a.plan.now.cuts l.i
          l.at top.result bottom.result a.rows.now l.rows l.invariant.0 top.ensures bottom.ensures l.invariant.1,
    )

pub returns : goal.returns
returns c =
    let l = c.loop-i in
    let a = c.args in
    let e : l.i ≡ a.plan.now.cells = omega (arith, c.from-i-end.ensures) in
    rw e at l.invariant.1
