-- Laws of tidied blanks: what becomes of one byte, and of a text byte by byte. A tidied text is no longer than it was.
-- Assumes nothing.
use mathlib.Core.Path.{◌≡◌, refl, sym, ◌∙◌, ap, ap₂}
use mathlib.Core.Bool.{Bool, true, false, cond, not, ◌&&◌}
use mathlib.Core.List.{List, [], ◌∷◌, ◌++◌}
use Prim.Native.Nat.{ℕ, ◌+◌, ◌<◌, ◌≤◌}
use native.Mathlib.Numerals.{add-one}
use native.Mathlib.Omega.{arith}
use lib.Dec.{eqb, ltb}
use lib.ListN.{length, get_or, drop, length-append, drop_of_length-le}
use lib.Seq.{drop-cons}
use borrow.Author.Tests.{le-ltb, lt-ltb}
use Rattle.laws.specs.Lists.{written}
use Rattle.laws.proofs.Cases.{by_test, cond_yes, cond_no, cond-each}
use Rattle.laws.proofs.Filled.{length-written, written_none, written_next}
use Rattle.std.specs.Prelude.{Ok, Err}
use Rattle.refusals.specs.declared.Refusal.TheVariants.{RowsShort}
use Rattle.call_text.specs.Given.{tidy_given}
use Rattle.call_text.specs.Tidy.{is_blank, place_after, tidied_byte, tidied_from, tidied, tidy_text}

abbrev pub spaced : ℕ → ℕ → Bool
spaced s c = eqb s 2 && not (eqb c 10)

module _ (s c : ℕ) where
  -- where the next byte stands
  pub after_blank : is_blank c ≡ true → eqb s 0 ≡ true → 0 ≡ place_after s c
  unfolding place_after
  after_blank b z = sym (cond_yes (is_blank c) _ _ b ∙ cond_yes (eqb s 0) 0 2 z)

  pub after-word : is_blank c ≡ true → eqb s 0 ≡ false → 2 ≡ place_after s c
  unfolding place_after
  after-word b z = sym (cond_yes (is_blank c) _ _ b ∙ cond_no (eqb s 0) 0 2 z)

  pub after_line_lem : is_blank c ≡ false → eqb c 10 ≡ true → 0 ≡ place_after s c
  unfolding place_after
  after_line_lem b z = sym (cond_no (is_blank c) _ _ b ∙ cond_yes (eqb c 10) 0 1 z)

  pub in_word : is_blank c ≡ false → eqb c 10 ≡ false → 1 ≡ place_after s c
  unfolding place_after
  in_word b z = sym (cond_no (is_blank c) _ _ b ∙ cond_no (eqb c 10) 0 1 z)

  -- what becomes of the byte
  pub byte_left : is_blank c ≡ true → tidied_byte s c ≡ []
  unfolding tidied_byte
  byte_left b = cond_yes (is_blank c) _ _ b

  pub byte_spaced : is_blank c ≡ false → spaced s c ≡ true → tidied_byte s c ≡ 32 ∷ c ∷ []
  unfolding tidied_byte
  byte_spaced b z = cond_no (is_blank c) _ _ b ∙ cond_yes (spaced s c) _ _ z

  pub byte-kept : is_blank c ≡ false → spaced s c ≡ false → tidied_byte s c ≡ c ∷ []
  unfolding tidied_byte
  byte-kept b z = cond_no (is_blank c) _ _ b ∙ cond_no (spaced s c) _ _ z

pub tidied_as : (s c : ℕ) (b old new : List ℕ) (at n : ℕ) → tidied_byte s c ≡ b → n ≡ length b → new ≡ written old at b
    → (n ≡ length (tidied_byte s c)) × (new ≡ written old at (tidied_byte s c))
tidied_as s c b old new at n e size wrote = rw e (size, wrote)

-- in blanks after a word one byte was left out for the space that may come
abbrev pub owed : ℕ → ℕ
owed s = cond (eqb s 2) 1 0

owed_few : (s : ℕ) → owed s ≤ 1
owed_few s = cond-each (λ (n : ℕ). n ≤ 1) (eqb s 2) (λ e. omega arith) (λ e. omega arith)

pub byte-size : (s c : ℕ) → length (tidied_byte s c) + owed (place_after s c) ≤ 1 + owed s
byte-size s c =
    by_test (is_blank c) (λ b. omega (arith, ap length (byte_left s c b), owed_few (place_after s c)))
    (λ b.
    let none : owed (place_after s c) ≡ 0 = by_test (eqb c 10) (λ z. ap owed (sym (after_line_lem s c b z))) (λ z. ap owed (sym (in_word s c b z))) in
    by_test (eqb s 2)
    (λ t.
    let one : owed s ≡ 1 = cond_yes (eqb s 2) 1 0 t in
    by_test (spaced s c) (λ z. omega (arith, ap length (byte_spaced s c b z))) (λ z. omega (arith, ap length (byte-kept s c b z))))
    (λ t.
    let kept : spaced s c ≡ false = ap (λ (x : Bool). x && not (eqb c 10)) t in
    omega (arith, ap length (byte-kept s c b kept))))

-- the bytes before place at of the text are tidied: what became of them stands in new before place size, and the next stands at s
pub record TidiedTo (text old : List ℕ) (at size s : ℕ) (new : List ℕ) : Type 0 where
  pub wrote : written new size (tidied_from s (drop at text)) ≡ written old 0 (tidied text)
  pub sized : size + length (tidied_from s (drop at text)) ≡ length (tidied text)
  pub short : size + owed s ≤ at
  pub ends : at ≤ length text
  pub long : length new ≡ length old

pub tidy_starts : (text old : List ℕ) → TidiedTo text old 0 0 0 old
unfolding tidied
tidy_starts text old = record { wrote = refl; sized = omega arith; short = omega arith; ends = omega arith; long = refl }

module _ (text old : List ℕ) (at size s : ℕ) (new : List ℕ) (t : TidiedTo text old at size s new) where
  pub tidy_done : length text ≤ at → (size ≡ length (tidied text)) × (new ≡ written old 0 (tidied text))
  unfolding tidied_from
  tidy_done h =
      let none : tidied_from s (drop at text) ≡ [] = ap (tidied_from s) (drop_of_length-le text {i = at} h) in (
        omega (arith, t.sized, ap length none),
        sym (written_none new size) ∙ ap (λ (l : List ℕ). written new size l) (sym none) ∙ t.wrote,
      )

  module _ (more : at < length text) (room : length text ≤ length old) where
    next : tidied_from s (drop at text) ≡ tidied_byte s (get_or text at 0) ++ tidied_from (place_after s (get_or text at 0)) (drop (at + 1) text)
    unfolding tidied_from
    next =
        ap (tidied_from s) (drop-cons text at 0 more)
        ∙ ap (λ (k : ℕ). tidied_byte s (get_or text at 0) ++ tidied_from (place_after s (get_or text at 0)) (drop k text)) (sym (add-one at))

    pub tidy_room : size + length (tidied_byte s (get_or text at 0)) ≤ length new
    tidy_room = omega (arith, byte-size s (get_or text at 0), t.short, t.long, room, more)

    pub tidy_more : (n s' : ℕ) (new' : List ℕ) → n ≡ length (tidied_byte s (get_or text at 0)) → s' ≡ place_after s (get_or text at 0)
        → new' ≡ written new size (tidied_byte s (get_or text at 0)) → TidiedTo text old (at + 1) (size + n) s' new'
    tidy_more n s' new' en es wrote =
        let c = get_or text at 0 in
        let b = tidied_byte s c in
        let rest = tidied_from (place_after s c) (drop (at + 1) text) in
        let rest-is : tidied_from s' (drop (at + 1) text) ≡ rest = ap (λ (k : ℕ). tidied_from k (drop (at + 1) text)) es in
        let at_n : size + n ≡ size + length b = omega arith in
        let owes : owed s' ≡ owed (place_after s c) = ap owed es in
        record {
          wrote =
              ap (λ (l : List ℕ). written new' (size + n) l) rest-is ∙ ap₂ (λ (l : List ℕ) (k : ℕ). written l k rest) wrote at_n
              ∙ written_next new size b rest tidy_room ∙ ap (λ (l : List ℕ). written new size l) (sym next) ∙ t.wrote;
          sized = omega (arith, t.sized, ap length next, length-append b rest, ap length rest-is);
          short = omega (arith, t.short, byte-size s c);
          ends = omega arith;
          long = ap length wrote ∙ length-written new size b tidy_room ∙ t.long;
        }

-- the whole text
pub tidy_short : (text old : List ℕ) → length old < length text → tidy_given (Err RowsShort) old ≡ tidy_text text old
unfolding tidy_text
tidy_short text old h = sym (cond_yes (ltb (length old) (length text)) _ _ (lt-ltb (length old) (length text) h))

pub tidy_whole : (text old : List ℕ) (size : ℕ) (new : List ℕ) → length text ≤ length old → size ≡ length (tidied text) → new ≡ written old 0 (tidied text)
    → tidy_given (Ok size) new ≡ tidy_text text old
unfolding tidy_text
tidy_whole text old size new h s w = rw (s, w) (sym (cond_no (ltb (length old) (length text)) _ _ (le-ltb (length old) (length text) h)))
