-- The cases of a line: as which call it is read, that a call is no longer than its line, and that a line which can't be read has none.
-- Assumes nothing.
use mathlib.Core.Path.{◌≡◌, sym, ◌∙◌, ap}
use mathlib.Core.Bool.{Bool, true, false, cond, ◌&&◌, ◌||◌}
use mathlib.Core.List.{List, [], ◌∷◌}
use Prim.Native.Nat.{ℕ, ◌+◌, ◌≤◌}
use native.Mathlib.Omega.{arith}
use lib.Dec.{eqb, leb}
use lib.ListN.{length, get_or, take, drop, length-append, length-take, length-drop}
use borrow.Author.Tests.{eqb-true}
use Rattle.laws.specs.Lists.{written}
use Rattle.laws.proofs.Cases.{cond_yes, cond_no, cond_both, cond-each, and_split}
use Rattle.laws.proofs.Lists.{length-tab}
use Rattle.std.specs.Prelude.{Option, Some, None, IfSome}
use Rattle.call_text.specs.Given.{line_size, memory_given}
use Rattle.call_text.specs.Words.{begins, decimal, is_number, is_bytes, bytes_of}
use Rattle.call_text.specs.Lines.{Line, line_of, bank_line, latch_line, space_in, older_line, timed_line, admit_line, step_word, bank_word, latch_word, admit_word, memory_word, line_in}
use Rattle.call_text.proofs.WordLaws.{bank-long, latch-long, admit-long}
use Rattle.call_text.proofs.CallLaws.{no_call, call, is_latch, word_byte, latch-length, bytes_fit_lem, length-bytes, older_empty, timed_empty, first_word, other_words, are_times, times-some, timed_of, length-timed}

-- the cases of a line
abbrev pub passed : List ℕ → Bool
passed l = eqb (length l) 0 || eqb (get_or l 0 0) 35

abbrev pub is_step : List ℕ → Bool
is_step l = eqb (length l) 4 && begins step_word l

module _ (l : List ℕ) where
  pub line_passed : passed l ≡ true → line_in l ≡ call []
  unfolding line_in
  line_passed p = cond_yes (passed l) _ _ p

  pub line_step : passed l ≡ false → is_step l ≡ true → line_in l ≡ call (3 ∷ [])
  unfolding line_in
  line_step p s = cond_no (passed l) _ _ p ∙ cond_yes (is_step l) _ _ s

  pub line-bank : passed l ≡ false → is_step l ≡ false → begins bank_word l ≡ true → line_in l ≡ bank_line (drop 5 l)
  unfolding line_in
  line-bank p s b = cond_no (passed l) _ _ p ∙ cond_no (is_step l) _ _ s ∙ cond_yes (begins bank_word l) _ _ b

  pub line-latch : passed l ≡ false → is_step l ≡ false → begins bank_word l ≡ false → begins latch_word l ≡ true → line_in l ≡ latch_line (drop 5 l)
  unfolding line_in
  line-latch p s b t = cond_no (passed l) _ _ p ∙ cond_no (is_step l) _ _ s ∙ cond_no (begins bank_word l) _ _ b ∙ cond_yes (begins latch_word l) _ _ t

  pub line-admit : passed l ≡ false → is_step l ≡ false → begins bank_word l ≡ false → begins latch_word l ≡ false → begins admit_word l ≡ true
      → line_in l ≡ admit_line (drop 6 l)
  unfolding line_in
  line-admit p s b t a =
      cond_no (passed l) _ _ p ∙ cond_no (is_step l) _ _ s ∙ cond_no (begins bank_word l) _ _ b ∙ cond_no (begins latch_word l) _ _ t
      ∙ cond_yes (begins admit_word l) _ _ a

  pub line_other : passed l ≡ false → is_step l ≡ false → begins bank_word l ≡ false → begins latch_word l ≡ false → begins admit_word l ≡ false
      → line_in l ≡ no_call
  unfolding line_in
  line_other p s b t a =
      cond_no (passed l) _ _ p ∙ cond_no (is_step l) _ _ s ∙ cond_no (begins bank_word l) _ _ b ∙ cond_no (begins latch_word l) _ _ t
      ∙ cond_no (begins admit_word l) _ _ a

-- a call is no longer than its line
bank-size : (l : List ℕ) → length (bank_line l).code ≤ length l + 4
unfolding bank_line
bank-size l = cond-each (λ (c : List ℕ). length c ≤ length l + 4) (is_number l && leb (decimal l) 65535) (λ e. omega arith) (λ e. omega arith)

latch-size : (l : List ℕ) → length (latch_line l).code ≤ length l + 4
unfolding latch_line
latch-size l =
    cond-each (λ (c : List ℕ). length c ≤ length l + 4) (is_latch l) (λ e. let long = latch-length l e in omega (arith, length-tab (word_byte l) 16))
    (λ e. omega arith)

pub older_size : (l : List ℕ) → length (older_line l).code ≤ length l + 4
unfolding older_line
older_size l =
    let p = space_in l in
    cond-each (λ (c : List ℕ). length c ≤ length l + 4) (is_bytes (take p l) && is_bytes (drop (p + 1) l))
    (λ e.
    let (r, q) = and_split (is_bytes (take p l)) (is_bytes (drop (p + 1) l)) e in
    let fr = bytes_fit_lem (take p l) r in
    let fq = bytes_fit_lem (drop (p + 1) l) q in
    omega (arith, length-append (bytes_of (take p l)) (bytes_of (drop (p + 1) l)), length-bytes (take p l), length-bytes (drop (p + 1) l), length-take p l, length-drop (p + 1) l))
    (λ e. omega arith)

pub timed-size : (l : List ℕ) → length (timed_line l).code ≤ length l + 4
timed-size l =
    let rest = other_words l in
    let r = first_word l in
    let q = first_word rest in
    let t = other_words rest in
    rw (ap (λ (x : Line). x.code) (timed_of l))
    (cond-each (λ (c : List ℕ). length c ≤ length l + 4) (is_bytes r && is_bytes q && are_times t)
    (λ e.
    let (b, s) = and_split (is_bytes r && is_bytes q) (are_times t) e in
    let (x, y) = and_split (is_bytes r) (is_bytes q) b in
    let fr = bytes_fit_lem r x in
    let fq = bytes_fit_lem q y in
    let ft = times-some t s in
    let size = length-timed (bytes_of r) (bytes_of q) (decimal (first_word t)) (decimal (other_words t)) in
    omega (arith, length-bytes r, length-bytes q, length-take (space_in l) l, length-drop (space_in l + 1) l, length-take (space_in rest) rest, length-drop (space_in rest + 1) rest))
    (λ e. omega arith))

admit-size : (l : List ℕ) → length (admit_line l).code ≤ length l + 4
unfolding admit_line
admit-size l = cond_both (λ (x : Line). length x.code ≤ length l + 4) (older_line l).good (older_size l) (timed-size l)

pub line-size : (l : List ℕ) → length (line_in l).code ≤ length l
unfolding line_in
line-size l =
    cond-each fits (passed l) (λ p. omega arith)
    (λ p.
    cond-each fits (is_step l) (λ s. let four = eqb-true (length l) 4 (and_split (eqb (length l) 4) (begins step_word l) s).0 in omega arith)
    (λ s.
    cond-each fits (begins bank_word l) (λ b. let long : 5 ≤ length l = bank-long l b in omega (arith, bank-size (drop 5 l), length-drop 5 l))
    (λ b.
    cond-each fits (begins latch_word l) (λ t. let long : 5 ≤ length l = latch-long l t in omega (arith, latch-size (drop 5 l), length-drop 5 l))
    (λ t.
    cond-each fits (begins admit_word l) (λ a. let long : 6 ≤ length l = admit-long l a in omega (arith, admit-size (drop 6 l), length-drop 6 l))
    (λ a. omega arith)))))
  where
    fits : Line → Type 0
    fits x = length x.code ≤ length l

-- a line that can't be read has none
admit_empty : (l : List ℕ) → (admit_line l).good ≡ false → (admit_line l).code ≡ []
unfolding admit_line
admit_empty l = cond_both (λ (x : Line). x.good ≡ false → x.code ≡ []) (older_line l).good (older_empty l) (timed_empty l)

pub bad_empty : (l : List ℕ) → (line_in l).good ≡ false → (line_in l).code ≡ []
unfolding line_in bank_line latch_line
bad_empty l =
    cond_both empty (passed l) (of true [])
    (cond_both empty (is_step l) (of true (3 ∷ []))
    (cond_both empty (begins bank_word l) (of _ _)
    (cond_both empty (begins latch_word l) (of _ _) (cond_both empty (begins admit_word l) (admit_empty (drop 6 l)) (of false [])))))
  where
    empty : Line → Type 0
    empty x = x.good ≡ false → x.code ≡ []

    of : (b : Bool) (code : List ℕ) → empty (line_of b code)
    of b code e = cond_no b code [] e

-- a line read as one of these is read so as a whole
pub line_read : (l : List ℕ) (x : Line) (r : Option ℕ) (old new : List ℕ) (at : ℕ) → line_in l ≡ x → (r ≡ line_size x) × (new ≡ written old at x.code)
    → (r ≡ line_size (line_in l)) × IfSome r (λ n. n ≤ length l) × (new ≡ written old at (line_in l).code)
line_read l x r old new at e h =
    let same : r ≡ line_size (line_in l) = h.0 ∙ ap line_size (sym e) in (
      same,
      rw same (cond-each (λ (o : Option ℕ). IfSome o (λ n. n ≤ length l)) (line_in l).good (λ g. line-size l) (λ g. tt)),
      h.1 ∙ ap (λ (y : Line). written old at y.code) (sym e),
    )

-- the row memory that a line says
abbrev pub says_memory : List ℕ → Bool
says_memory l = begins memory_word l && is_number (drop 7 l) && leb (decimal (drop 7 l)) 65536

pub memory_bad : (l : List ℕ) → says_memory l ≡ false → memory_given None ≡ cond (says_memory l) (decimal (drop 7 l)) 65537
memory_bad l e = sym (cond_no (says_memory l) (decimal (drop 7 l)) 65537 e)

pub memory_good : (l : List ℕ) (n : ℕ) → n ≡ decimal (drop 7 l) → says_memory l ≡ true → memory_given (Some n) ≡ cond (says_memory l) (decimal (drop 7 l)) 65537
memory_good l n d e = d ∙ sym (cond_yes (says_memory l) (decimal (drop 7 l)) 65537 e)
