-- `words::number_in` meets its contract.
-- Assumes nothing.
use mathlib.Core.Path.{◌≡◌, refl, sym, ◌∙◌, ap, ap₂}
use mathlib.Core.Bool.{Bool, ◌||◌}
use Prim.Native.Nat.{ℕ, ◌+◌, ◌*◌, ◌^◌, ◌<◌}
use native.Mathlib.Omega.{arith}
use lib.Dec.{ltb}
use lib.ListN.{length, get_or}
use borrow.Author.Rules.{rules}
use borrow.Author.Tests.{lt-ltb}
use Rattle.std.specs.Prelude.{Some}
use Rattle.std.specs.Char.{digit_value}
use Rattle.laws.proofs.Cases.{by_less}
use Rattle.laws.proofs.Tests.{every_more}
use Rattle.call_text.specs.Based.{based_to, is_based}
use Rattle.call_text.proofs.Scans.{few_digits, based_next, based_room, based_yes, based_long, based_no}
use Rattle.call_text.proofs.words.number_in.Goals as goal

pub returns-then-is_empty-most : goal.returns-then-is_empty-most
returns-then-is_empty-most c =
    let a = c.args in
    based_long a.base a.most a.text.now (ap (λ (b : Bool). b || ltb a.most (length a.text.now)) (sym c.is_empty.ensures) ∙ c.if-is_empty-most.true)

pub loop-c-init : goal.loop-c-init
unfolding based_to
loop-c-init c = record { counted = refl; digits = refl }

pub overflow_mul-value : goal.overflow_mul-value
overflow_mul-value c =
    let a = c.args in
    let l = c.loop-c in
    let few = few_digits a.text.now a.most _ c.is_empty.ensures c.if-is_empty-most.false in
    let room = based_room a.base a.most a.text.now l.c-index l.value c.requires.2 c.requires.0 (omega (arith, few.0, c.loop-c-test.true)) l.invariant.counted l.invariant.digits in
    let fits : a.base * l.value < 2 ^ 32 = omega (arith, room) in
    search rules

pub overflow_add-value : goal.overflow_add-value
overflow_add-value c =
    let a = c.args in
    let l = c.loop-c in
    let few = few_digits a.text.now a.most _ c.is_empty.ensures c.if-is_empty-most.false in
    let room = based_room a.base a.most a.text.now l.c-index l.value c.requires.2 c.requires.0 (omega (arith, few.0, c.loop-c-test.true)) l.invariant.counted l.invariant.digits in
    let digit = c.in_ok-value.ensures.value in
    let fits : a.base * l.value + c.in_ok-value.field-0 < 2 ^ 32 = omega (arith, room, digit.0, digit.1) in
    search rules

pub returns-in_err-value : goal.returns-in_err-value
returns-in_err-value c =
    let a = c.args in
    c.from_residual.ensures
    ∙ based_no a.base a.most a.text.now c.loop-c.c-index c.loop-c-test.true
    (by_less (digit_value (get_or a.text.now c.loop-c.c-index 0)) a.base (λ h. absurd (c.in_err-value.ensures.value (omega (arith, h, ap digit_value c.from.ensures)))) (λ h. h))

pub loop-c-preserved : goal.loop-c-preserved
loop-c-preserved c =
    let a = c.args in
    let l = c.loop-c in
    let digit = c.in_ok-value.ensures.value in
    let same = ap digit_value c.from.ensures in
    record {
      counted = ap₂ (λ (v d : ℕ). a.base * v + d) l.invariant.counted (digit.1 ∙ same) ∙ sym (based_next a.base a.text.now l.c-index);
      digits = every_more (is_based a.base a.text.now) l.c-index l.invariant.digits (lt-ltb (digit_value (get_or a.text.now l.c-index 0)) a.base (omega (arith, digit.0, same)));
    }

pub returns : goal.returns
returns c =
    let a = c.args in
    let l = c.loop-c in
    let few = few_digits a.text.now a.most _ c.is_empty.ensures c.if-is_empty-most.false in
    let e : l.c-index ≡ length a.text.now = omega arith in
    ap Some (l.invariant.counted ∙ ap (based_to a.base a.text.now) e)
    ∙ based_yes a.base a.most a.text.now few.0 few.1 (rw e at l.invariant.digits)
