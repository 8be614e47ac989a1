-- `count_outputs` counts the outputs of a cell.
-- Assumes nothing.
use mathlib.Core.Path.{◌≡◌, refl, sym, ◌∙◌, ap}
use mathlib.Core.Bool.{◌&&◌, not}
use lib.Dec.{eqb, ltb}
use lib.ListN.{length}
use native.Mathlib.Omega.{arith}
use Rattle.stored_spec.specs.StoredForm.{StoredCell, record_count, variable}
use Rattle.stored.proofs.CellPlaces.{turn-cells}
use Rattle.stored.proofs.CellReads.{part_none, cells-none, few-cells, one_cell, whole_part, cell_there}
use Rattle.stored.proofs.RowBits.{outs-few, turn-count}
use Rattle.stored.proofs.Walks.{from_input}
use Rattle.stored.proofs.reads.count_outputs.Goals as goal

pub loop-i-init : goal.loop-i-init
loop-i-init c =
    let R = c.args.records.now in
    (cells-none R, sym (ap (λ (d : StoredCell). length d.outs) (part_none R c.args.k)))

pub overflow_add-n : goal.overflow_add-n
overflow_add-n c =
    let l = c.loop-i in
    omega (arith, l.invariant.1, outs-few c.args.records.now c.args.k l.i, c.from-n.ensures, one_cell (eqb l.cell c.args.k && not (ltb (variable c.args.records.now l.i) 128)))

pub overflow_add-cell : goal.overflow_add-cell
overflow_add-cell c =
    let l = c.loop-i in
    omega (arith, few-cells c.args.records.now l.i l.invariant.0 c.from-cell.ensures)

pub loop-i-preserved : goal.loop-i-preserved
loop-i-preserved c =
    let l = c.loop-i in
    let R = c.args.records.now in
    let here = eqb l.cell c.args.k && not (ltb (variable R l.i) 128) in (
      turn-cells R l.i l.invariant.0 c.from-cell.ensures,
      turn-count R l.i c.args.k l.invariant.0 refl l.invariant.1 (rw c.from-n.ensures (from_input here l.n)),
    )

pub returns : goal.returns
returns c =
    let R = c.args.records.now in
    let l = c.loop-i in
    let e : l.i ≡ record_count R = omega arith in
    (rw e at l.invariant.1) ∙ ap (λ (d : StoredCell). length d.outs) (whole_part R c.args.k (cell_there R c.args.k c.requires))
