-- `known::known_line` meets its contract.
-- Assumes nothing.
use mathlib.Core.Path.{◌≡◌, sym, ◌∙◌, ap, ap₂}
use mathlib.Core.Bool.{true, false, cond, ◌&&◌}
use mathlib.Core.List.{List}
use Prim.Native.Nat.{ℕ}
use Rattle.std.specs.Prelude.{Some, None}
use Rattle.laws.proofs.Cases.{cond_yes, cond_no, and_join, and_left_no}
use Rattle.call_text.specs.Given.{known_given}
use Rattle.call_text.specs.Known.{known_name, word_name, says, said, known_words, known_line}
use Rattle.call_text.proofs.CallLaws.{and_no, some_test, none_test}
use Rattle.call_text.proofs.known.known_line.Goals as goal

module _ (first second : List ℕ) where
  words-good : (k w : ℕ) → Some k ≡ cond (says known_name first) (Some (said known_name first)) None
      → Some w ≡ cond (says word_name second) (Some (said word_name second)) None → known_given (Some (record { known = k; word = w })) ≡ known_words first second
  unfolding known_words
  words-good k w e f =
      let (h, x) = some_test (says known_name first) (said known_name first) k e in
      let (g, y) = some_test (says word_name second) (said word_name second) w f in
      ap₂ (λ (m n : ℕ). record { good = true; known = m; word = n }) x y ∙ sym (cond_yes (says known_name first && says word_name second) _ _ (and_join h g))

  words-bad : (says known_name first && says word_name second) ≡ false → known_given None ≡ known_words first second
  unfolding known_words
  words-bad h = sym (cond_no (says known_name first && says word_name second) _ _ h)

pub returns-in_err-known : goal.returns-in_err-known
unfolding known_line
returns-in_err-known c =
    let first = c.cut.result.0.now in
    let second = c.cut.result.1.now in
    let no = none_test (says known_name first) (said known_name first) c.in_err-known.ensures in
    ap known_given c.from_residual.ensures ∙ words-bad first second (and_left_no (says known_name first) (says word_name second) no)
    ∙ ap₂ known_words c.cut.ensures.before c.cut.ensures.after

pub returns-in_err-word : goal.returns-in_err-word
unfolding known_line
returns-in_err-word c =
    let first = c.cut.result.0.now in
    let second = c.cut.result.1.now in
    let no = none_test (says word_name second) (said word_name second) c.in_err-word.ensures in
    ap known_given c.from_residual-in_err-word.ensures ∙ words-bad first second (and_no (says known_name first) (says word_name second) no)
    ∙ ap₂ known_words c.cut.ensures.before c.cut.ensures.after

pub returns : goal.returns
unfolding known_line
returns c =
    let l = c.args.line.now in
    let read = c.cut.ensures in
    words-good c.cut.result.0.now c.cut.result.1.now _ _ c.in_ok-known.ensures c.in_ok-word.ensures ∙ ap₂ known_words read.before read.after
