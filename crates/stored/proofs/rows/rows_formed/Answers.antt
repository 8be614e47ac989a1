-- `rows_formed` tests the rows of each cell.
-- Assumes nothing.
use mathlib.Core.Path.{◌≡◌, sym, ◌∙◌}
use Prim.Native.Nat.{◌+◌, ◌^◌}
use native.Mathlib.Omega.{arith}
use Rattle.laws.proofs.Cases.{and_join}
use Rattle.stored_spec.specs.StoredForm.{record_count, row_count}
use Rattle.stored_spec.proofs.RowForms.{room_rise}
use Rattle.stored.proofs.rows.RowBytes.{room_some}
use Rattle.stored_spec.proofs.StoredCells.{rows_below, begin, bytes_begin, bytes-all}
use Rattle.stored.proofs.CellSteps.{cell_power, cells_same, cell_few, cell_among, cell_counted, cell_bytes, bytes_over}
use Rattle.stored.proofs.rows.rows_formed.Goals.{in-Some+else-not-rows_below, in_default}
use Rattle.stored.proofs.rows.rows_formed.Goals as goal

pub loop-i-init : goal.loop-i-init
loop-i-init g c =
    let R = c.args.records.now in
    (c.start-walk.ensures R, sym (begin g.row.SIZE R).1, bytes_begin _ _ R)

pub rows_below-requires : goal.rows_below-requires
rows_below-requires g c =
    let R = c.args.records.now in
    let l = c.loop-i in
    let few = cell_few R l.i c.next.ensures.0 c.in-Some.is g.row.SIZE c.requires.2 c.loop-i-test.true in
    let among = cell_among R l.i c.next.ensures.0 c.in-Some.is g.row.SIZE c.requires.2 c.loop-i-test.true in
    let rise = room_rise g.row.SIZE (l.at + 2 ^ c.in-Some.cell.inputs) (row_count R) (omega (arith, among, l.invariant.1)) in
    (c.requires.0, c.requires.1, few.0, few.1, omega (arith, rise, c.requires.3))

pub returns-then-not-rows_below : goal.returns-then-not-rows_below
unfolding rows_below
returns-then-not-rows_below g c =
    sym (bytes_over _ _ c.next.ensures.0 c.in-Some.is _ _ c.loop-i.invariant.1 c.loop-i-test.true (sym c.rows_below.ensures ∙ c.if-not-rows_below.true))

pub overflow_shl-at : goal.overflow_shl-at
overflow_shl-at g c =
    let few = cell_few _ _ c.next.ensures.0 c.in-Some.is _ c.requires.2 c.loop-i-test.true in
    omega (arith, few.0)

pub overflow_add-at : goal.overflow_add-at
overflow_add-at g c =
    let R = c.args.records.now in
    let l = c.loop-i in
    let few = cell_few R l.i c.next.ensures.0 c.in-Some.is g.row.SIZE c.requires.2 c.loop-i-test.true in
    let among = cell_among R l.i c.next.ensures.0 c.in-Some.is g.row.SIZE c.requires.2 c.loop-i-test.true in
    omega (arith, (cell_power few.0).0, among, l.invariant.1, room_some g.row.SIZE (row_count R) c.requires.0, c.requires.3)

pub loop-i-preserved : goal.loop-i-preserved
unfolding rows_below
loop-i-preserved g c =
    let l = c.loop-i in
    let R = c.args.records.now in
    let on = c.next.ensures in
    elim c.match-next.branch [
      | in-Some+else-not-rows_below w ↦
          let few = cell_few R l.i on.0 w.in-Some.is g.row.SIZE c.requires.2 c.loop-i-test.true in
          let counted = cell_counted R l.i on.0 w.in-Some.is in (
            on.1,
            omega (arith, w.at-is, (cell_power few.0).0, l.invariant.1, counted),
            cell_bytes R l.i on.0 w.in-Some.is g.row.SIZE c.args.rows.now l.invariant.1
                ∙ and_join l.invariant.2 (sym w.rows_below.ensures ∙ w.if-not-rows_below.false),
          )
      | in_default w ↦
          let same = cells_same R l.i on.0 w.in_default.is in
          (on.1, rw same (w.at-is ∙ l.invariant.1), rw same l.invariant.2)
    ]

pub returns : goal.returns
returns g c =
    let R = c.args.records.now in
    let e : c.loop-i.i ≡ record_count R = omega arith in
    sym (rw e at c.loop-i.invariant.2) ∙ bytes-all g.row.SIZE c.args.rows.now R
