-- `find_address` finds the row address in a cell.
-- Assumes nothing.
use mathlib.Core.Path.{◌≡◌, refl, sym, ◌∙◌, ap}
use mathlib.Core.Bool.{◌&&◌, cond}
use Prim.Native.Nat.{ℕ, ◌≤◌, ◌+◌, ◌*◌, ◌^◌}
use lib.Dec.{eqb, ltb}
use lib.Pow.{pow_mono}
use native.Mathlib.Omega.{arith}
use Rattle.laws.specs.Bits.{bit}
use Rattle.laws.proofs.Cases.{cond_yes, cond_no}
use Rattle.stored_spec.specs.StoredForm.{StoredCell, record_count, variable}
use Rattle.stored_spec.specs.Run.{address}
use Rattle.stored.proofs.CellPlaces.{turn-cells}
use Rattle.stored.proofs.CellReads.{cells-none, few-cells, whole_part}
use Rattle.stored.proofs.RowBits.{no_inputs, address-small, turn-address}
use Rattle.stored.proofs.reads.find_address.Goals.{then-cell-k, else-cell-k}
use Rattle.stored.proofs.reads.find_address.Goals as goal

pub loop-i-init : goal.loop-i-init
loop-i-init c =
    let a = c.args in
    let R = a.records.now in
    (cells-none R, c.from-a.ensures ∙ sym (no_inputs R a.k a.rail a.word), omega arith)

pub overflow_add-cell : goal.overflow_add-cell
overflow_add-cell c =
    let l = c.loop-i in
    omega (arith, few-cells c.args.records.now l.i l.invariant.0 c.from-cell.ensures)

pub loop-i-preserved : goal.loop-i-preserved
loop-i-preserved c =
    let l = c.loop-i in
    let a = c.args in
    let R = a.records.now in
    let v = variable R l.i in
    let here = eqb l.cell a.k && ltb v 128 in
    let e : c.if-cell-k.a ≡ cond here (l.a * 2 + bit a.word v) l.a =
    elim c.if-cell-k.branch [
      | then-cell-k w ↦ w.a-is ∙ ap (λ (x : ℕ). l.a * 2 + x) w.word_bit.ensures ∙ sym (cond_yes here _ _ w.if-cell-k.true)
      | else-cell-k w ↦ w.a-is ∙ sym (cond_no here _ _ w.if-cell-k.false)
    ]
    in (
      turn-cells R l.i l.invariant.0 c.from-cell.ensures,
      turn-address R l.i a.k l.invariant.0 refl a.rail a.word l.invariant.1 e,
      address-small l.i here a.word v l.invariant.2 e,
    )

pub returns : goal.returns
returns c =
    let a = c.args in
    let R = a.records.now in
    let l = c.loop-i in
    let pre = c.requires in
    let e : l.i ≡ record_count R = omega arith in
    let w = whole_part R a.k pre.1 in
    let few : l.i + 16 ≤ 36 = omega (arith, e, pre.0) in
    let top : 2 ^ (l.i + 16) ≤ 2 ^ 36 = pow_mono few in
    ((rw e at l.invariant.1) ∙ ap (λ (d : StoredCell). address a.rail d.ins a.word) w, omega (arith, l.invariant.2, top))
