-- `count_cells` counts the cells of any records.
-- Assumes nothing.
use mathlib.Core.Path.{◌≡◌, ◌∙◌}
use Rattle.stored_spec.specs.StoredForm.{record_count}
use Rattle.stored.proofs.CellPlaces.{turn-cells}
use Rattle.stored.proofs.CellReads.{cells-none, cells-all, few-cells}
use native.Mathlib.Omega.{arith}
use Rattle.stored.proofs.reads.count_cells.Goals as goal

pub loop-i-init : goal.loop-i-init
loop-i-init c = cells-none c.args.records.now

pub overflow_add-cells : goal.overflow_add-cells
overflow_add-cells c =
    let l = c.loop-i in
    omega (arith, few-cells c.args.records.now l.i l.invariant c.from-cells.ensures)

pub loop-i-preserved : goal.loop-i-preserved
loop-i-preserved c =
    let l = c.loop-i in
    turn-cells c.args.records.now l.i l.invariant c.from-cells.ensures

pub returns : goal.returns
returns c =
    let R = c.args.records.now in
    let e : c.loop-i.i ≡ record_count R = omega arith in
    (rw e at c.loop-i.invariant) ∙ cells-all R
