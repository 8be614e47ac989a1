-- `store_outputs` sets the outputs of a cell.
-- Assumes nothing.
use mathlib.Core.Path.{◌≡◌, refl, sym, ◌∙◌, ap}
use mathlib.Core.Bool.{◌&&◌, not, cond}
use mathlib.Core.List.{List}
use Prim.Native.Nat.{ℕ, ◌-◌, ◌/◌, ◌^◌}
use lib.Dec.{eqb, ltb}
use lib.ListN.{length}
use borrow.Author.Tests.{ltb-false, not-true}
use native.Mathlib.Omega.{arith}
use Rattle.laws.proofs.Cases.{and_split}
use Rattle.stored_spec.specs.StoredForm.{StoredCell, record_count, variable, cell_at}
use Rattle.stored_spec.specs.Run.{set_outputs, outputs_after}
use Rattle.stored.proofs.CellPlaces.{turn-cells}
use Rattle.stored.proofs.CellReads.{part_to, part_none, cells-none, few-cells, whole_part, few-outs, cell_there, rows_told_lem}
use Rattle.stored.proofs.RowBits.{no_outputs_yet, length-outputs, some_left, turn_left, turn-outputs}
use Rattle.stored.proofs.Walks.{less_one}
use Rattle.stored.proofs.reads.store_outputs.Goals as goal

pub loop-i-init : goal.loop-i-init
loop-i-init c =
    let a = c.args in
    let R = a.records.now in
    let n = ap (λ (d : StoredCell). length d.outs) (part_none R a.k) in
    (cells-none R, omega (arith, n), sym (no_outputs_yet R a.k a.outputs.now (a.row / 2 ^ a.first)))

pub overflow_sub-e : goal.overflow_sub-e
overflow_sub-e c =
    let l = c.loop-i in
    let a = c.args in
    let R = a.records.now in
    let pre = c.requires in
    let some = some_left R a.k pre.0 l.i c.loop-i-test.true l.invariant.0 refl (l.invariant.1 ∙ pre.1) in
    rw c.from-e.ensures (less_one (eqb l.cell a.k && not (ltb (variable R l.i) 128)) l.e some).0

pub put_bit-requires : goal.put_bit-requires
put_bit-requires c =
    let l = c.loop-i in
    let a = c.args in
    let R = a.records.now in
    let pre = c.requires in
    let here = eqb l.cell a.k && not (ltb (variable R l.i) 128) in
    let some = some_left R a.k pre.0 l.i c.loop-i-test.true l.invariant.0 refl (l.invariant.1 ∙ pre.1) in
    let less : l.e - c.from-e.result ≡ cond here (l.e - 1) l.e = rw c.from-e.ensures (less_one here l.e some).1 in
    let left = turn_left R l.i a.k l.invariant.0 refl some less l.invariant.1 in (
      λ h. ltb-false (variable R l.i) 128 (not-true (ltb (variable R l.i) 128) (and_split (eqb l.cell a.k) (not (ltb (variable R l.i) 128)) h).1),
      omega (arith, left, pre.1, few-outs R a.k (rows_told_lem R a.k pre.0)),
    )

pub overflow_add-cell : goal.overflow_add-cell
overflow_add-cell c =
    let l = c.loop-i in
    omega (arith, few-cells c.args.records.now l.i l.invariant.0 c.from-cell.ensures)

pub loop-i-preserved : goal.loop-i-preserved
loop-i-preserved c =
    let l = c.loop-i in
    let a = c.args in
    let R = a.records.now in
    let pre = c.requires in
    let here = eqb l.cell a.k && not (ltb (variable R l.i) 128) in
    let some = some_left R a.k pre.0 l.i c.loop-i-test.true l.invariant.0 refl (l.invariant.1 ∙ pre.1) in
    let less : l.e - c.from-e.result ≡ cond here (l.e - 1) l.e = rw c.from-e.ensures (less_one here l.e some).1 in (
      turn-cells R l.i l.invariant.0 c.from-cell.ensures,
      turn_left R l.i a.k l.invariant.0 refl some less l.invariant.1,
      turn-outputs R l.i a.k l.invariant.0 refl a.outputs.now a.row some less l.invariant.2 c.put_bit.ensures,
    )

pub shape_of-outputs : goal.shape_of-outputs
shape_of-outputs c =
    let l = c.loop-i in
    let a = c.args in
    ap (λ (s : List ℕ). length s) l.invariant.2 ∙ length-outputs (part_to a.records.now l.i a.k).outs a.outputs.now (a.row / 2 ^ l.e)

pub returns : goal.returns
unfolding outputs_after
returns c =
    let l = c.loop-i in
    let a = c.args in
    let R = a.records.now in
    let pre = c.requires in
    let e : l.i ≡ record_count R = omega arith in
    let w = whole_part R a.k (cell_there R a.k pre.0) in
    let n = (rw e at l.invariant.1) in
    let m = ap (λ (d : StoredCell). length d.outs) w in
    let low : l.e ≡ (cell_at R a.k).lower = omega (arith, n, m, pre.1) in
    (rw e at l.invariant.2) ∙ ap (λ (d : StoredCell). set_outputs a.outputs.now d.outs (a.row / 2 ^ l.e)) w
    ∙ ap (λ (x : ℕ). set_outputs a.outputs.now (cell_at R a.k).outs (a.row / 2 ^ x)) low
