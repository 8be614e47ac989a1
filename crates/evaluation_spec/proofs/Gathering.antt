-- Sets of rail words, and what is gathered of rows read one after another: the bits that some row has, those that each has, and the rail words
-- below.
-- Assumes nothing.
use mathlib.Core.Path.{◌≡◌, refl, sym, ◌∙◌, ap, ap₂}
use mathlib.Core.Bool.{Bool, true, false, cond, not, ◌&&◌, ◌||◌, and-true, or-false}
use mathlib.Core.List.{List}
use Prim.Native.Nat.{ℕ, zero, suc, ◌/◌, ◌%◌, ◌^◌, ◌<◌}
use native.Mathlib.Omega.{arith}
use lib.Dec.{eqb}
use lib.Bits.{bit_or}
use lib.ListN.{length, get_or, set, length-set, length-replicate, get_or-replicate, get_or-eq_default}
use lib.Seq.{get_or-set_same, get_or-set_other}
use borrow.Author.Tests.{eqb-true, eq-eqb, ne_eqb}
use Rattle.laws.specs.Tests.{every, any}
use Rattle.laws.specs.Bits.{has}
use Rattle.laws.specs.Turns.{in_turn}
use Rattle.laws.proofs.Cases.{by_less, by_equal, cond_both, same_test}
use Rattle.laws.proofs.Tests.{every_at}
use Rattle.laws.proofs.Bits.{has_or, has_and, has_power}
use Rattle.laws.proofs.Masks.{has-zero}
use Rattle.evaluation_spec.specs.RailSets.{rail_words, no_rails, is_in, with_rail, Gathered, none_read, with_row}

-- the set without rail words; with one more
pub none_in : (r : ℕ) → is_in no_rails r ≡ false
unfolding is_in
none_in r = ap (λ (x : ℕ). has x (r % 64)) (zeros (r / 64)) ∙ has-zero (r % 64)
  where
    zeros : (i : ℕ) → ◌≡◌ {A = ℕ} (get_or no_rails i 0) 0
    zeros i =
        by_less i rail_words (λ l. get_or-replicate {A = ℕ} rail_words i 0 0 l)
        (λ l. get_or-eq_default no_rails 0 {n = i} (omega (arith, length-replicate {A = ℕ} rail_words 0)))

pub with_length : (s : List ℕ) (r : ℕ) → length (with_rail s r) ≡ length s
unfolding with_rail
with_length s r = length-set s (r / 64) _

pub in_with : (s : List ℕ) (r q : ℕ) → length s ≡ rail_words → r < 4096 → is_in (with_rail s r) q ≡ (is_in s q || eqb q r)
unfolding is_in with_rail
in_with s r q e l =
    let v = bit_or (get_or s (r / 64) 0) (2 ^ (r % 64)) in
    by_equal (q / 64) (r / 64)
    (λ same.
    ap (λ (i : ℕ). has (get_or (set s (r / 64) v) i 0) (q % 64)) same
    ∙ ap (λ (x : ℕ). has x (q % 64)) (get_or-set_same s (r / 64) v 0 (omega arith))
    ∙ has_or (get_or s (r / 64) 0) (2 ^ (r % 64)) (q % 64)
    ∙ ap₂ ◌||◌ (ap (λ (i : ℕ). has (get_or s i 0) (q % 64)) (sym same)) (has_power (r % 64) (q % 64) ∙ here same))
    (λ other.
    ap (λ (x : ℕ). has x (q % 64)) (get_or-set_other s (r / 64) (q / 64) v 0 other)
    ∙ sym (ap (λ (b : Bool). has (get_or s (q / 64) 0) (q % 64) || b) (ne_eqb q r (λ p. other (ap (λ (x : ℕ). x / 64) p))) ∙ or-false _))
  where
    here : q / 64 ≡ r / 64 → eqb (r % 64) (q % 64) ≡ eqb q r
    here same =
        same_test (eqb (r % 64) (q % 64)) (eqb q r) (λ p. let z = eqb-true (r % 64) (q % 64) p in eq-eqb q r (omega arith))
        (λ p. let z = eqb-true q r p in eq-eqb (r % 64) (q % 64) (omega arith))

-- of the rows f 0, .., f (n - 1) those that pass the test t are read; f i has the lower rails r i
module _ (t : ℕ → Bool) (f r : ℕ → ℕ) where
  abbrev pub read_in : ℕ → Gathered
  read_in n = in_turn n (λ i g. cond (t i) (with_row (f i) (r i) g) g) none_read

  -- bits that a row read has
  pub some-has : (e n : ℕ) → has (read_in n).some e ≡ any n (λ i. t i && has (f i) e)
  unfolding with_row
  some-has e zero = has-zero e
  some-has e (suc n) = by (t n) ∙ ap (λ (b : Bool). b || (t n && has (f n) e)) (some-has e n)
    where
      by : (b : Bool) → has (cond b (with_row (f n) (r n) (read_in n)) (read_in n)).some e ≡ (has (read_in n).some e || (b && has (f n) e))
      by true = has_or (read_in n).some (f n) e
      by false = sym (or-false _)

  -- bits that each row read has
  pub each-has : (e : ℕ) → e < 16 → (n : ℕ) → has (read_in n).each e ≡ every n (λ i. not (t i) || has (f i) e)
  unfolding with_row
  each-has e l zero = every_at (has 65535) 16 refl e l
  each-has e l (suc n) = by (t n) ∙ ap (λ (b : Bool). b && (not (t n) || has (f n) e)) (each-has e l n)
    where
      by : (b : Bool) → has (cond b (with_row (f n) (r n) (read_in n)) (read_in n)).each e ≡ (has (read_in n).each e && (not b || has (f n) e))
      by true = has_and (read_in n).each (f n) e
      by false = sym (and-true _)

  pub next-length : (n : ℕ) → length (read_in n).next ≡ rail_words
  unfolding with_row
  next-length zero = length-replicate {A = ℕ} rail_words 0
  next-length (suc n) =
      cond_both (λ (g : Gathered). length g.next ≡ rail_words) (t n) (with_length (read_in n).next (r n) ∙ next-length n) (next-length n)

  -- the lower rails of the rows read
  pub next-has : ((i : ℕ) → r i < 4096) → (q n : ℕ) → is_in (read_in n).next q ≡ any n (λ i. t i && eqb q (r i))
  unfolding with_row
  next-has small q zero = none_in q
  next-has small q (suc n) = by (t n) ∙ ap (λ (b : Bool). b || (t n && eqb q (r n))) (next-has small q n)
    where
      by : (b : Bool) → is_in (cond b (with_row (f n) (r n) (read_in n)) (read_in n)).next q ≡ (is_in (read_in n).next q || (b && eqb q (r n)))
      by true = in_with (read_in n).next (r n) q (next-length n) (small n)
      by false = sym (or-false _)
