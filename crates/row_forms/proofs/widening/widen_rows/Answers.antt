-- `widen_rows` stores each byte and then 0.
-- Assumes nothing.
use mathlib.Core.Path.{◌≡◌, refl, sym, ◌∙◌, ap}
use Prim.Native.Nat.{ℕ, ◌+◌, ◌*◌}
use native.Mathlib.Omega.{arith}
use lib.ListN.{length, get_or, set, length-set}
use Rattle.laws.specs.Lists.{puts}
use Rattle.laws.proofs.Puts.{puts_none, puts-pair, copied}
use Rattle.stored_spec.specs.RowBytes.{one_byte, two_bytes}
use Rattle.stored_spec.proofs.RowForms.{room_two}
use Rattle.row_forms_spec.specs.Moves.{moved_rows}
use Rattle.row_forms_spec.proofs.MovedRows.{AreBytes}
use Rattle.row_forms_spec.proofs.MovedBytes.{wide_low, wide_high, wide_length}
use Rattle.row_forms.proofs.widening.widen_rows.Goals as goal
use Rattle.row_forms.proofs.widening.widen_rows.Invariants.{moved}

pub loop-i-init : goal.loop-i-init
loop-i-init c = let a = c.args in (sym (puts_none (moved a.from.now) a.to.now), refl)

pub bounds-to-i : goal.bounds-to-i
bounds-to-i c =
    omega (arith, c.requires, room_two (length c.args.from.now), c.loop-i.invariant.1)

pub bounds-to-i-in-loop-i : goal.bounds-to-i-in-loop-i
bounds-to-i-in-loop-i c =
    let l = c.loop-i in
    omega (arith, c.requires, room_two (length c.args.from.now), l.invariant.1, length-set l.to (l.i * 2) (get_or c.args.from.now l.i 0))

pub loop-i-preserved : goal.loop-i-preserved
loop-i-preserved c =
    let l = c.loop-i in
    let a = c.args in
    let from = a.from.now in
    let are : AreBytes from = λ i. omega (arith, c.type_inv.from i) in
    let here = c.loop-i-test.true in (
      puts-pair (moved from) l.i a.to.now l.to _ 0 l.invariant.0 (sym (wide_low from are l.i here)) (sym (wide_high from are l.i here)),
      length-set (set l.to (l.i * 2) (get_or from l.i 0)) (l.i * 2 + 1) 0 ∙ length-set l.to (l.i * 2) (get_or from l.i 0) ∙ l.invariant.1,
    )

pub returns : goal.returns
returns c =
    let l = c.loop-i in
    let from = c.args.from.now in
    let vs = moved_rows one_byte two_bytes from in
    let e : l.i * 2 ≡ length vs = omega (arith, wide_length from) in
    l.invariant.0 ∙ ap (λ (k : ℕ). puts k (moved from) c.args.to.now) e
    ∙ copied vs c.args.to.now (omega (arith, c.requires, room_two (length from), wide_length from))
