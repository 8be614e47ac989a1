-- `narrow_rows` stores the low byte of each pair.
-- Assumes nothing.
use mathlib.Core.Path.{◌≡◌, refl, sym, ◌∙◌, ap}
use Prim.Native.Nat.{ℕ}
use native.Mathlib.Omega.{arith}
use lib.ListN.{length, length-set}
use Rattle.laws.specs.Lists.{puts}
use Rattle.laws.proofs.Puts.{puts_none, puts-next, copied}
use Rattle.stored_spec.specs.RowBytes.{one_byte, two_bytes}
use Rattle.row_forms_spec.specs.Moves.{moved_rows}
use Rattle.row_forms_spec.proofs.MovedRows.{AreBytes}
use Rattle.row_forms_spec.proofs.MovedBytes.{slim_byte, slim_length}
use Rattle.row_forms.proofs.narrowing.narrow_rows.Goals as goal
use Rattle.row_forms.proofs.narrowing.narrow_rows.Invariants.{moved}

pub loop-i-init : goal.loop-i-init
loop-i-init c = let a = c.args in (sym (puts_none (moved a.from.now) a.to.now), refl)

pub bounds-to-i : goal.bounds-to-i
bounds-to-i c = omega (arith, c.requires, c.loop-i.invariant.1, c.loop-i-test.true)

pub loop-i-preserved : goal.loop-i-preserved
loop-i-preserved c =
    let l = c.loop-i in
    let a = c.args in
    let from = a.from.now in
    let are : AreBytes from = λ i. omega (arith, c.type_inv.from i) in (
      puts-next (moved from) l.i a.to.now l.to _ l.invariant.0 (sym (slim_byte from are l.i c.loop-i-test.true)),
      length-set l.to l.i _ ∙ l.invariant.1,
    )

pub returns : goal.returns
returns c =
    let l = c.loop-i in
    let from = c.args.from.now in
    let vs = moved_rows two_bytes one_byte from in
    let e : l.i ≡ length vs = omega (arith, slim_length from) in
    l.invariant.0 ∙ ap (λ (k : ℕ). puts k (moved from) c.args.to.now) e ∙ copied vs c.args.to.now (omega (arith, c.requires, slim_length from))
