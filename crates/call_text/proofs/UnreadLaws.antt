-- Laws of lines that can't be read: where a line begins, and what it should have been.
-- Assumes nothing.
use mathlib.Core.Path.{◌≡◌, refl, sym, ◌∙◌, ap}
use mathlib.Core.Bool.{true, false}
use mathlib.Core.List.{List}
use Prim.Native.Nat.{ℕ, ◌+◌, ◌≤◌}
use native.Mathlib.Numerals.{add-one}
use native.Mathlib.Omega.{arith}
use lib.ListN.{length, drop, length-drop, drop_of_length-le}
use lib.Seq.{drop-drop}
use Rattle.laws.proofs.Cases.{cond_yes, cond_no}
use Rattle.call_text.specs.Words.{begins}
use Rattle.call_text.specs.Lines.{line_end, step_word, latch_word}
use Rattle.call_text.specs.Wanted.{bank_name, admit_name, wanted, lines_after, wanted_after}

-- the line after the one at place at, whose length is n
module _ (text : List ℕ) (at n : ℕ) (e : n ≡ line_end (drop at text)) where
  pub next-line : drop (at + n + 1) text ≡ drop (line_end (drop at text) + 1) (drop at text)
  next-line =
      let place : at + n + 1 ≡ at + (line_end (drop at text) + 1) = omega arith in
      ap (λ (k : ℕ). drop k text) place ∙ sym (drop-drop (line_end (drop at text) + 1) at text)

  pub last_line : length text ≤ at + n → drop (length text) text ≡ drop (line_end (drop at text) + 1) (drop at text)
  last_line h =
      drop_of_length-le text {i = length text} (omega arith)
      ∙ sym (drop_of_length-le (drop at text) {i = line_end (drop at text) + 1} (omega (arith, length-drop at text)))

pub lines_start : (text : List ℕ) → drop 0 text ≡ lines_after 0 text
unfolding lines_after
lines_start text = refl

pub lines_next : (text : List ℕ) (at next i : ℕ) → drop at text ≡ lines_after i text → drop next text ≡ drop (line_end (drop at text) + 1) (drop at text)
    → drop next text ≡ lines_after (i + 1) text
unfolding lines_after
lines_next text at next i e n = n ∙ ap (λ (l : List ℕ). drop (line_end l + 1) l) e ∙ ap (λ (k : ℕ). lines_after k text) (sym (add-one i))

-- what the line should have been
module _ (l : List ℕ) where
  pub wanted-bank : begins bank_name l ≡ true → 1 ≡ wanted l
  unfolding wanted
  wanted-bank b = sym (cond_yes (begins bank_name l) _ _ b)

  pub wanted-admit : begins bank_name l ≡ false → begins admit_name l ≡ true → 2 ≡ wanted l
  unfolding wanted
  wanted-admit b a = sym (cond_no (begins bank_name l) _ _ b ∙ cond_yes (begins admit_name l) _ _ a)

  pub wanted-latch : begins bank_name l ≡ false → begins admit_name l ≡ false → begins latch_word l ≡ true → 3 ≡ wanted l
  unfolding wanted
  wanted-latch b a t = sym (cond_no (begins bank_name l) _ _ b ∙ cond_no (begins admit_name l) _ _ a ∙ cond_yes (begins latch_word l) _ _ t)

  pub wanted-step : begins bank_name l ≡ false → begins admit_name l ≡ false → begins latch_word l ≡ false → begins step_word l ≡ true → 4 ≡ wanted l
  unfolding wanted
  wanted-step b a t s =
      sym (cond_no (begins bank_name l) _ _ b ∙ cond_no (begins admit_name l) _ _ a ∙ cond_no (begins latch_word l) _ _ t ∙ cond_yes (begins step_word l) _ _ s)

  pub wanted-any : begins bank_name l ≡ false → begins admit_name l ≡ false → begins latch_word l ≡ false → begins step_word l ≡ false → 0 ≡ wanted l
  unfolding wanted
  wanted-any b a t s =
      sym (cond_no (begins bank_name l) _ _ b ∙ cond_no (begins admit_name l) _ _ a ∙ cond_no (begins latch_word l) _ _ t ∙ cond_no (begins step_word l) _ _ s)

pub wanted-after : (n : ℕ) (text : List ℕ) (at x : ℕ) → drop at text ≡ lines_after n text → x ≡ wanted (drop at text) → x ≡ wanted_after n text
unfolding wanted_after
wanted-after n text at x e h = h ∙ ap wanted e
