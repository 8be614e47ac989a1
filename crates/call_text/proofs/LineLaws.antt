-- Laws of the text that lines make up: line after line, where the first one ends, and how what is read and what is left make up the whole.
-- Assumes nothing.
use mathlib.Core.Path.{◌≡◌, refl, sym, ◌∙◌, ap, ap₂}
use mathlib.Core.Bool.{true, false, cond}
use mathlib.Core.List.{List, [], ◌++◌}
use Prim.Native.Nat.{ℕ, zero, suc, ◌+◌, ◌-◌, ◌<◌, ◌≤◌}
use native.Mathlib.Omega.{arith}
use lib.Dec.{eqb, ltb}
use lib.ListN.{length, get_or, take, drop, length-append, length-take, length-drop}
use lib.Seq.{drop-drop}
use borrow.Author.Tests.{eq-eqb, ne_eqb, lt-ltb, le-ltb}
use Rattle.laws.specs.Tests.{least}
use Rattle.laws.specs.Lists.{written}
use Rattle.laws.proofs.Cases.{by_less, cond_yes, cond_no}
use Rattle.laws.proofs.Find.{least-le}
use Rattle.laws.proofs.Filled.{length-written, written_none, written_next}
use Rattle.std.specs.Prelude.{Err}
use Rattle.refusals.specs.declared.Refusal.TheVariants.{RowsShort}
use Rattle.call_text.specs.Given.{text_given}
use Rattle.call_text.specs.Words.{decimal}
use Rattle.call_text.specs.Lines.{Line, Text, text_of, line_in, line_end, lines_to, lines_in, memory_in, read_text}
use Rattle.call_text.proofs.CallLaws.{rest_all}
use Rattle.call_text.proofs.LineCases.{line-size, bad_empty, says_memory}

-- line after line
abbrev pub no_lines : Text
no_lines = record { code = []; bad_line = 0 }

abbrev pub first_line : List ℕ → Line
first_line l = line_in (take (line_end l) l)

abbrev pub after_line : List ℕ → List ℕ
after_line l = drop (line_end l + 1) l

to_none : (n k : ℕ) (l : List ℕ) → length l ≡ 0 → lines_to n k l ≡ no_lines
unfolding lines_to
to_none zero k l e = refl
to_none (suc n) k l e = cond_yes _ _ _ (eq-eqb (length l) 0 e)

to_more : (n k : ℕ) (l : List ℕ) → 0 < length l → lines_to (suc n) k l ≡ text_of (first_line l) k (lines_to n (k + 1) (after_line l))
unfolding lines_to
to_more n k l h = cond_no _ _ _ (ne_eqb (length l) 0 (λ e. omega arith))

-- as many turns as there are bytes are enough
to_enough : (n m k : ℕ) (l : List ℕ) → length l ≤ n → length l ≤ m → lines_to n k l ≡ lines_to m k l
to_enough zero m k l p q = let e : length l ≡ 0 = omega arith in to_none 0 k l e ∙ sym (to_none m k l e)
to_enough (suc n) zero k l p q = let e : length l ≡ 0 = omega arith in to_none (suc n) k l e ∙ sym (to_none 0 k l e)
to_enough (suc n) (suc m) k l p q =
    let s = length-drop (line_end l + 1) l in
    by_less 0 (length l)
    (λ h. to_more n k l h ∙ ap (text_of (first_line l) k) (to_enough n m (k + 1) (after_line l) (omega arith) (omega arith)) ∙ sym (to_more m k l h))
    (λ h. let e : length l ≡ 0 = omega arith in to_none (suc n) k l e ∙ sym (to_none (suc m) k l e))

pub lines_none : (k : ℕ) (l : List ℕ) → length l ≡ 0 → lines_in k l ≡ no_lines
unfolding lines_in
lines_none k l e = to_none (length l) k l e

pub lines_more : (k : ℕ) (l : List ℕ) → 0 < length l → lines_in k l ≡ text_of (first_line l) k (lines_in (k + 1) (after_line l))
unfolding lines_in
lines_more k l h =
    let s = length-drop (line_end l + 1) l in
    to_enough (length l) (suc (length l)) k l (omega arith) (omega arith) ∙ to_more (length l) k l h
    ∙ ap (text_of (first_line l) k) (to_enough (length l) (length (after_line l)) (k + 1) (after_line l) (omega arith) (omega arith))

-- the first line
pub line-ended : (l : List ℕ) (n : ℕ) → n ≡ least (length l) (λ i. eqb (get_or l i 0) 10) → n ≡ line_end l
unfolding line_end
line-ended l n e = e

-- the first of the lines from place at on, as its end is found, and as it is cut
pub end_found : (text : List ℕ) (at n : ℕ)
    → n ≡ least (length (take (length text - at) (drop at text))) (λ i. eqb (get_or (take (length text - at) (drop at text)) i 0) 10) → n ≡ line_end (drop at text)
end_found text at n e = line-ended (take (length text - at) (drop at text)) n e ∙ ap line_end (rest_all at text)

pub line-cut : (text : List ℕ) (at n : ℕ) → take (at + n - at) (drop at text) ≡ take n (drop at text)
line-cut text at n = let e : at + n - at ≡ n = omega arith in ap (λ (k : ℕ). take k (drop at text)) e

pub line_end-le : (l : List ℕ) → line_end l ≤ length l
unfolding line_end
line_end-le l = least-le (λ i. eqb (get_or l i 0) 10) (length l)

abbrev memory_said : List ℕ → ℕ
memory_said l = cond (says_memory l) (decimal (drop 7 l)) 65537

pub memory_read : (l : List ℕ) (end n : ℕ) → end ≡ line_end l → n ≡ cond (says_memory (take end l)) (decimal (drop 7 (take end l))) 65537 → n ≡ memory_in l
unfolding memory_in
memory_read l end n e h = h ∙ ap (λ (k : ℕ). memory_said (take k l)) e

-- lines before place at of the text are read: their calls stand in code before place size, and what is left to read ends as the whole text does
pub record Reading (text old : List ℕ) (first at size number : ℕ) (code : List ℕ) : Type 0 where
  pub wrote : written code size (lines_in number (drop at text)).code ≡ written old 0 (lines_in first text).code
  pub sized : size + length (lines_in number (drop at text)).code ≡ length (lines_in first text).code
  pub bad : (lines_in number (drop at text)).bad_line ≡ (lines_in first text).bad_line
  pub short : size ≤ at
  pub ends : at ≤ length text + 1
  pub from : first ≤ number
  pub few : number ≤ first + at
  pub long : length code ≡ length old

pub reading_starts : (text old : List ℕ) (first : ℕ) → Reading text old first 0 0 first old
reading_starts text old first = record { wrote = refl; sized = omega arith; bad = refl; short = omega arith; ends = omega arith; from = omega arith; few = omega arith; long = refl }

module _ (text old : List ℕ) (first at size number : ℕ) (code : List ℕ) (r : Reading text old first at size number code) where
  all_read : (t : Text) → lines_in number (drop at text) ≡ t → t.code ≡ []
      → (size ≡ length (lines_in first text).code) × (t.bad_line ≡ (lines_in first text).bad_line) × (written code size [] ≡ written old 0 (lines_in first text).code)
  all_read t e none =
      let empty : (lines_in number (drop at text)).code ≡ [] = ap (λ (x : Text). x.code) e ∙ none in (
        omega (arith, r.sized, ap length empty),
        ap (λ (x : Text). x.bad_line) (sym e) ∙ r.bad,
        ap (λ (s : List ℕ). written code size s) (sym empty) ∙ r.wrote,
      )

  -- no more lines
  pub reading_done : length text ≤ at
      → (size ≡ length (lines_in first text).code) × (0 ≡ (lines_in first text).bad_line) × (code ≡ written old 0 (lines_in first text).code)
  reading_done h =
      let e = lines_none number (drop at text) (omega (arith, length-drop at text)) in
      let (s, b, w) = all_read no_lines e refl in
      (s, b, sym (written_none code size) ∙ w)

  module _ (end : ℕ) (line : List ℕ) (more : at < length text) (e : end ≡ line_end (drop at text)) (cut : line ≡ take end (drop at text)) where
    first_is : first_line (drop at text) ≡ line_in line
    first_is = ap (λ (k : ℕ). line_in (take k (drop at text))) (sym e) ∙ ap line_in (sym cut)

    next : lines_in number (drop at text) ≡ text_of (line_in line) number (lines_in (number + 1) (drop (at + end + 1) text))
    next =
        let place : at + (line_end (drop at text) + 1) ≡ at + end + 1 = omega arith in
        let after : drop (line_end (drop at text) + 1) (drop at text) ≡ drop (at + end + 1) text =
        drop-drop (line_end (drop at text) + 1) at text ∙ ap (λ (k : ℕ). drop k text) place in
        lines_more number (drop at text) (omega (arith, length-drop at text))
        ∙ ap₂ (λ (x : Line) (s : List ℕ). text_of x number (lines_in (number + 1) s)) first_is after

    -- a line that can't be read
    pub reading-ends : (line_in line).good ≡ false
        → (size ≡ length (lines_in first text).code) × (number ≡ (lines_in first text).bad_line) × (written code size (line_in line).code ≡ written old 0 (lines_in first text).code)
    reading-ends h =
        let stop : lines_in number (drop at text) ≡ record { code = []; bad_line = number } = next ∙ cond_no (line_in line).good _ _ h in
        let (s, b, w) = all_read (record { code = []; bad_line = number }) stop refl in
        (s, b, ap (λ (c : List ℕ). written code size c) (bad_empty line h) ∙ w)

    -- a line more
    pub reading_more : (n : ℕ) (new : List ℕ) → length text ≤ length old → (line_in line).good ≡ true → n ≡ length (line_in line).code
        → new ≡ written code size (line_in line).code → Reading text old first (at + end + 1) (size + n) (number + 1) new
    reading_more n new room h en wrote =
        let c = (line_in line).code in
        let rest = lines_in (number + 1) (drop (at + end + 1) text) in
        let joined : lines_in number (drop at text) ≡ record { code = c ++ rest.code; bad_line = rest.bad_line } = next ∙ cond_yes (line_in line).good _ _ h in
        let code_is : (lines_in number (drop at text)).code ≡ c ++ rest.code = ap (λ (x : Text). x.code) joined in
        let last : end ≤ length text - at = omega (arith, e, line_end-le (drop at text), length-drop at text) in
        let line-long : length line ≤ end = omega (arith, ap length cut, length-take end (drop at text)) in
        let fits : size + length c ≤ length code = omega (arith, line-size line, r.short, r.long) in
        let at_n : size + n ≡ size + length c = omega arith in
        record {
          wrote =
              ap₂ (λ (l : List ℕ) (k : ℕ). written l k rest.code) wrote at_n ∙ written_next code size c rest.code fits
              ∙ ap (λ (s : List ℕ). written code size s) (sym code_is) ∙ r.wrote;
          sized = omega (arith, r.sized, ap length code_is, length-append c rest.code);
          bad = ap (λ (x : Text). x.bad_line) (sym joined) ∙ r.bad;
          short = omega (arith, line-size line, r.short);
          ends = omega arith;
          from = omega (arith, r.from);
          few = omega (arith, r.few);
          long = ap length wrote ∙ length-written code size c fits ∙ r.long;
        }

-- the whole text
pub read_short : (text old : List ℕ) (first : ℕ) → length old < length text → text_given (Err RowsShort) old ≡ read_text text first old
unfolding read_text
read_short text old first h = sym (cond_yes (ltb (length old) (length text)) _ _ (lt-ltb (length old) (length text) h))

pub read_whole : (text old : List ℕ) (first size bad : ℕ) (code : List ℕ) → length text ≤ length old
    → (size ≡ length (lines_in first text).code) × (bad ≡ (lines_in first text).bad_line) → code ≡ written old 0 (lines_in first text).code
    → record { refusal = 0; size = size; bad_line = bad; code = code } ≡ read_text text first old
unfolding read_text
read_whole text old first size bad code h (s, b) w =
    rw (s, b, w) (sym (cond_no (ltb (length old) (length text)) _ _ (le-ltb (length old) (length text) h)))
