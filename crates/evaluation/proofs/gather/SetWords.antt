-- The rail words in a word of a set, bit by bit, and in a set, word by word.
-- Assumes nothing.
use mathlib.Core.Path.{◌≡◌, refl, sym, ◌∙◌, ap, ap₂}
use mathlib.Core.Bool.{true, false}
use mathlib.Core.List.{List}
use Prim.Native.Nat.{ℕ, zero, suc, ◌+◌, ◌-◌, ◌*◌, ◌/◌, ◌%◌, ◌^◌, ◌≤◌, ◌<◌}
use native.Mathlib.Nat.{mod-lt, div-one, pow-suc, not-suc-le-zero, zero-mul, add-mul}
use native.Mathlib.Omega.{arith}
use lib.Dec.{eqb}
use lib.Count.{under, count_trailing_zeros}
use lib.ListN.{get_or}
use lib.Pow.{shr-shr, pow_pos, split, high, low}
use borrow.Author.Tests.{eq-eqb, ne_eqb}
use Rattle.laws.specs.Bits.{bit, has}
use Rattle.laws.specs.Turns.{in_turn}
use Rattle.laws.proofs.Bits.{bit-lt, bit-suc, has-high, has_past}
use Rattle.laws.proofs.Cases.{by_less, cond_yes, cond_no}
use Rattle.laws.proofs.Masks.{not-both}
use Rattle.laws.proofs.Turns.{turns_next, turns-idle}
use Rattle.evaluation_spec.specs.RailSets.{Gathered, is_in}
use Rattle.evaluation.specs.Agreeing.{Addresses, of_rail, of_bit, of_word, of_place}

-- what is left of a word after b bits is 0 only where no bit from b on is there
left_none : (x b : ℕ) → x / 2 ^ b ≡ 0 → x < 2 ^ b
left_none x b e = omega (arith, mod-lt x (pow_pos b), split x b, ap (λ (y : ℕ). y * 2 ^ b) e ∙ zero-mul (2 ^ b))

-- the lowest bit that is 1, by the zeros below it
bit_0 : (n : ℕ) → bit n 0 ≡ n % 2
bit_0 n = ap (λ (x : ℕ). x % 2) (div-one n)

pub zeros_below : (k n i : ℕ) → i < count_trailing_zeros k n → has n i ≡ false
unfolding count_trailing_zeros
zeros_below zero n i l = absurd (not-suc-le-zero l)
zeros_below (suc k) n i l = by (n % 2) refl (zeros_below k (n / 2)) i l
  where
    by : (d : ℕ) → n % 2 ≡ d → ((i : ℕ) → i < count_trailing_zeros k (n / 2) → has (n / 2) i ≡ false) → (i : ℕ) → i < under d (count_trailing_zeros k (n / 2)) → has n i ≡ false
    by zero e half zero l = ne_eqb (bit n 0) 1 (λ p. let z = sym (bit_0 n ∙ e) ∙ p in omega (arith, z))
    by zero e half (suc i) l = ap (λ (x : ℕ). eqb x 1) (bit-suc n i) ∙ half i (omega arith)
    by (suc d) e half i l = absurd (not-suc-le-zero l)

pub one_there : (k n : ℕ) → n < 2 ^ k → (n ≡ 0 → ⊥) → has n (count_trailing_zeros k n) ≡ true
unfolding count_trailing_zeros
one_there zero n l some = absurd (some (omega arith))
one_there (suc k) n l some = by (n % 2) refl (one_there k (n / 2))
  where
    by : (d : ℕ) → n % 2 ≡ d → (n / 2 < 2 ^ k → (n / 2 ≡ 0 → ⊥) → has (n / 2) (count_trailing_zeros k (n / 2)) ≡ true) → has n (under d (count_trailing_zeros k (n / 2))) ≡ true
    by zero e half =
        ap (λ (x : ℕ). eqb x 1) (bit-suc n (count_trailing_zeros k (n / 2)))
        ∙ half (let m = pow-suc 2 k in omega (arith, m, l)) (λ z. some (omega (arith, z, e)))
    by (suc d) e half = eq-eqb (bit n 0) 1 (let m = bit-lt n 0 in omega (arith, bit_0 n, e, m))

-- of the rest of a word after b bits: its bit r is bit b + r of the word
module _ (x b : ℕ) {rest : ℕ} (e : rest ≡ x / 2 ^ b) where
  pub rest-bit : (r : ℕ) → has rest r ≡ has x (b + r)
  rest-bit r = ap (λ (y : ℕ). has y r) e ∙ has-high x b r

  pub bit_left : x < 2 ^ 64 → (r : ℕ) → has rest r ≡ true → b + r < 64
  bit_left small r t = by_less (b + r) 64 (λ l. l) (λ l. not-both (sym (rest-bit r) ∙ t) (has_past x 64 (b + r) small l))

  pub left_next : (r : ℕ) → rest / 2 ^ r / 2 ≡ x / 2 ^ (b + r + 1)
  left_next r = ap (λ (y : ℕ). y / 2 ^ r / 2) e ∙ ap (λ (y : ℕ). y / 2) (shr-shr x b r) ∙ shr-shr x (b + r) 1

-- bit b of word q of a set is rail word q * 64 + b
pub in_at : (s : List ℕ) (q b : ℕ) → b < 64 → is_in s (q * 64 + b) ≡ has (get_or s q 0) b
unfolding is_in
in_at s q b l = ap₂ (λ (x y : ℕ). has (get_or s x 0) y) (high q 6 l) (low q 6 l)

-- the places of its rows
pub rail_place : (at q b block : ℕ) → at + (q * 64 + b) * block ≡ at + q * 64 * block + b * block
rail_place at q b block = omega (arith, add-mul (q * 64) b block)

module _ (bytes : List ℕ) (p : Addresses) (x base : ℕ) (s : Gathered) where
  -- r bits that are 0, and then one that is 1
  pub word_next : (b r : ℕ) {rest at : ℕ} {g h : Gathered} → rest ≡ x / 2 ^ b → ((i : ℕ) → i < r → has rest i ≡ false) → has rest r ≡ true
      → at ≡ base + (b + r) * p.block → g ≡ in_turn b (of_bit bytes p x base) s → h ≡ of_rail bytes p at g
      → h ≡ in_turn (b + r + 1) (of_bit bytes p x base) s
  unfolding of_bit
  word_next b r {g = g} is none one a q e =
      let skipped : in_turn (b + r) (of_bit bytes p x base) s ≡ in_turn b (of_bit bytes p x base) s =
      turns-idle (of_bit bytes p x base) b (b + r) (omega arith)
      (λ i l m t.
      let n : b + (i - b) ≡ i = omega arith in
      cond_no (has x i) (of_rail bytes p (base + i * p.block) t) t
      (sym (ap (has x) n) ∙ sym (rest-bit x b is (i - b)) ∙ none (i - b) (omega arith))) s in
      e ∙ ap (λ (y : ℕ). of_rail bytes p y g) a
      ∙ sym (cond_yes (has x (b + r)) (of_rail bytes p (base + (b + r) * p.block) g) g (sym (rest-bit x b is r) ∙ one))
      ∙ ap (of_bit bytes p x base (b + r)) (q ∙ sym skipped) ∙ sym (turns_next (of_bit bytes p x base) (b + r) s)

  pub word-ends : (b : ℕ) {rest : ℕ} {g : Gathered} → b ≤ 64 → rest ≡ x / 2 ^ b → rest ≡ 0 → g ≡ in_turn b (of_bit bytes p x base) s → g ≡ of_word bytes p x base s
  unfolding of_word of_bit
  word-ends b l r z q =
      q
      ∙ sym
      (turns-idle (of_bit bytes p x base) b 64 l
      (λ i m k t. cond_no (has x i) (of_rail bytes p (base + i * p.block) t) t (has_past x b i (left_none x b (sym r ∙ z)) m)) s)

pub set_next : (bytes : List ℕ) (p : Addresses) (ws : List ℕ) (s : Gathered) (q : ℕ) {x : ℕ} {g h : Gathered} → x ≡ get_or ws q 0
    → g ≡ in_turn q (of_place bytes p ws) s → h ≡ of_word bytes p x (p.at + q * 64 * p.block) g → h ≡ in_turn (q + 1) (of_place bytes p ws) s
unfolding of_place
set_next bytes p ws s q {g = g} is e f =
    f ∙ ap (λ (y : ℕ). of_word bytes p y (p.at + q * 64 * p.block) g) is ∙ ap (of_place bytes p ws q) e ∙ sym (turns_next (of_place bytes p ws) q s)
