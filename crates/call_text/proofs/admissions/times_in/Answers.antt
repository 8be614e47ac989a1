-- `admissions::times_in` meets its contract.
-- Assumes nothing.
use mathlib.Core.Path.{◌≡◌, sym, ◌∙◌, ap₂}
use mathlib.Core.Bool.{cond, ◌&&◌}
use mathlib.Core.List.{List}
use Prim.Native.Nat.{ℕ}
use Rattle.std.specs.Prelude.{Some, None}
use Rattle.laws.proofs.Cases.{cond_yes, cond_no, and_left_no, and_join}
use Rattle.call_text.specs.Words.{decimal}
use Rattle.call_text.specs.Lines.{is_byte_number}
use Rattle.call_text.specs.Timed.{times_of, times_in}
use Rattle.call_text.proofs.CallLaws.{and_no, some_test, none_test}
use Rattle.call_text.proofs.admissions.times_in.Goals as goal

times-good : (p q : List ℕ) (m n : ℕ) → Some m ≡ cond (is_byte_number p) (Some (decimal p)) None → Some n ≡ cond (is_byte_number q) (Some (decimal q)) None
    → Some (record { period = m; phase = n }) ≡ times_of p q
times-good p q m n e f =
    let (h, x) = some_test (is_byte_number p) (decimal p) m e in
    let (g, y) = some_test (is_byte_number q) (decimal q) n f in
    ap₂ (λ (a b : ℕ). Some (record { period = a; phase = b })) x y ∙ sym (cond_yes (is_byte_number p && is_byte_number q) _ None (and_join h g))

pub returns-in_err-period : goal.returns-in_err-period
unfolding times_in
returns-in_err-period c =
    let p = c.cut.result.0.now in
    let q = c.cut.result.1.now in
    let no = none_test (is_byte_number p) (decimal p) c.in_err-period.ensures in
    c.from_residual.ensures ∙ sym (cond_no (is_byte_number p && is_byte_number q) _ None (and_left_no (is_byte_number p) (is_byte_number q) no))
    ∙ ap₂ times_of c.cut.ensures.before c.cut.ensures.after

pub returns-in_err-phase : goal.returns-in_err-phase
unfolding times_in
returns-in_err-phase c =
    let p = c.cut.result.0.now in
    let q = c.cut.result.1.now in
    let no = none_test (is_byte_number q) (decimal q) c.in_err-phase.ensures in
    c.from_residual-in_err-phase.ensures ∙ sym (cond_no (is_byte_number p && is_byte_number q) _ None (and_no (is_byte_number p) (is_byte_number q) no))
    ∙ ap₂ times_of c.cut.ensures.before c.cut.ensures.after

pub returns : goal.returns
unfolding times_in
returns c =
    times-good c.cut.result.0.now c.cut.result.1.now _ _ c.in_ok-period.ensures c.in_ok-phase.ensures
    ∙ ap₂ times_of c.cut.ensures.before c.cut.ensures.after
