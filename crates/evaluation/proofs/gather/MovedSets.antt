-- A set of rail words moved word by word: the words past that of the highest rail word are 0, so the others are all that is to be moved.
-- Assumes nothing.
use mathlib.Core.Path.{◌≡◌, sym, ◌∙◌, ap}
use mathlib.Core.List.{List}
use Prim.Native.Nat.{ℕ, zero, suc, ◌+◌, ◌*◌, ◌/◌, ◌≤◌, ◌<◌}
use native.Mathlib.Omega.{arith}
use lib.Bits.{bit_and, bit_or, and_le_r}
use lib.ListN.{get_or, set, length-set, length-replicate, get_or-replicate, get_or-eq_default}
use lib.Seq.{get_or-set_same, get_or-set_other, ext_get_or}
use Rattle.laws.specs.Bits.{has}
use Rattle.laws.specs.Lists.{puts}
use Rattle.laws.specs.Turns.{in_turn}
use Rattle.laws.proofs.Cases.{by_less, by_equal, cond_both}
use Rattle.laws.proofs.Puts.{length-puts, get_or-puts, get_or_unput}
use Rattle.evaluation_spec.specs.RailSets.{no_rails, Gathered, with_rail, with_row}
use Rattle.evaluation.specs.Agreeing.{word_at, no_word, Within, Addresses, rail_row, of_rail, of_bit, of_word, of_place, of_set}

-- what every step keeps is kept
pub turns_keep : {A : Type 0} (P : A → Type 0) (F : ℕ → A → A) → ((i : ℕ) (t : A) → P t → P (F i t)) → (n : ℕ) (s : A) → P s → P (in_turn n F s)
turns_keep P F h zero s p = p
turns_keep P F h (suc n) s p = h n (in_turn n F s) (turns_keep P F h n s p)

pub none_within : (n : ℕ) → Within n no_rails
unfolding word_at
none_within n = record { long = length-replicate {A = ℕ} 64 0; rest = λ q l. zeros q }
  where
    zeros : (q : ℕ) → ◌≡◌ {A = ℕ} (get_or no_rails q 0) 0
    zeros q =
        by_less q 64 (λ l. get_or-replicate {A = ℕ} 64 q 0 0 l)
        (λ l. get_or-eq_default no_rails 0 {n = q} (omega (arith, length-replicate {A = ℕ} 64 0)))

pub within-rail : (n : ℕ) (s : List ℕ) (r : ℕ) → r / 64 < n → Within n s → Within n (with_rail s r)
unfolding with_rail word_at
within-rail n s r l h =
    record {
      long = length-set s (r / 64) _ ∙ h.long;
      rest = λ q m. get_or-set_other s (r / 64) q _ 0 (λ e. absurd (omega arith)) ∙ h.rest q m;
    }

pub within-row : (n x r : ℕ) (g : Gathered) → r / 64 < n → Within n g.next → Within n (with_row x r g).next
unfolding with_row
within-row n x r g l h = within-rail n g.next r l h

within_low : (n x low : ℕ) (g : Gathered) → low / 64 < n → Within n g.next → Within n (with_row x (bit_and x low) g).next
within_low n x low g l h = within-row n x (bit_and x low) g (omega (arith, and_le_r x low)) h

module _ (bytes : List ℕ) (p : Addresses) where
  abbrev Kept : Gathered → Type 0
  Kept g = Within (p.low / 64 + 1) g.next

  rail-kept : (base : ℕ) (g : Gathered) → Kept g → Kept (of_rail bytes p base g)
  unfolding of_rail rail_row
  rail-kept base g h =
      turns_keep Kept (rail_row bytes (base + p.value) p.mask p.free p.low)
      (λ j t k. within_low (p.low / 64 + 1) _ p.low t (omega arith) k) p.count g h

  word_kept : (x base : ℕ) (g : Gathered) → Kept g → Kept (of_word bytes p x base g)
  unfolding of_word of_bit
  word_kept x base g h =
      turns_keep Kept (of_bit bytes p x base) (λ b t k. cond_both Kept (has x b) (rail-kept (base + b * p.block) t k) k) 64 g h

  pub set-kept : (s : List ℕ) (n : ℕ) (g : Gathered) → Kept g → Kept (of_set bytes p s n g)
  unfolding of_set of_place
  set-kept s n g h = turns_keep Kept (of_place bytes p s) (λ q t k. word_kept (get_or s q 0) (p.at + q * 64 * p.block) t k) n g h

-- a set moved to where one was that is cleared now; the place that it leaves
module _ (n : ℕ) (s : List ℕ) (h : Within n s) where
  pub moved : (m : ℕ) (t : List ℕ) → Within m t → puts n (word_at s) (puts m no_word t) ≡ s
  unfolding word_at no_word
  moved m t k =
      let c = puts m no_word t in
      let long = length-puts no_word m t ∙ k.long in
      ext_get_or 0 (puts n (word_at s) c) s (length-puts (word_at s) n c ∙ long ∙ sym h.long)
      (λ q l.
      let b : q < 64 = omega (arith, l, length-puts (word_at s) n c, long) in
      by_less q n (λ e. get_or-puts (word_at s) n c 0 q e (omega (arith, long)))
      (λ e. get_or_unput (word_at s) n c 0 q e ∙ cleared m t k q b ∙ sym (h.rest q e)))
    where
      cleared : (m : ℕ) (t : List ℕ) → Within m t → (q : ℕ) → q < 64 → get_or (puts m no_word t) q 0 ≡ 0
      cleared m t k q b = by_less q m (λ e. get_or-puts no_word m t 0 q e (omega (arith, k.long))) (λ e. get_or_unput no_word m t 0 q e ∙ k.rest q e)

  pub left : puts n no_word s ≡ no_rails
  unfolding word_at no_word
  left =
      let long = length-puts no_word n s ∙ h.long in
      ext_get_or 0 (puts n no_word s) no_rails (long ∙ sym (length-replicate {A = ℕ} 64 0))
      (λ q l.
      let b : q < 64 = omega (arith, l, long) in
      by_less q n (λ e. get_or-puts no_word n s 0 q e (omega (arith, h.long))) (λ e. get_or_unput no_word n s 0 q e ∙ h.rest q e)
      ∙ sym (get_or-replicate {A = ℕ} 64 q 0 0 b))

-- a set of one word, and the word that takes its place
pub one_word : (s : List ℕ) (x : ℕ) → Within 1 s → set s 0 x ≡ set no_rails 0 (bit_or (get_or no_rails 0 0) x)
unfolding word_at
one_word s x h =
    ext_get_or 0 (set s 0 x) (set no_rails 0 x) (length-set s 0 x ∙ h.long ∙ sym (length-set no_rails 0 x ∙ (none_within 1).long))
    (λ q l.
    by_equal q 0
    (λ e.
    ap (λ (i : ℕ). get_or (set s 0 x) i 0) e ∙ get_or-set_same s 0 x 0 (omega (arith, h.long))
    ∙ sym (get_or-set_same no_rails 0 x 0 (omega (arith, (none_within 1).long))) ∙ ap (λ (i : ℕ). get_or (set no_rails 0 x) i 0) (sym e))
    (λ e.
    let b : 1 ≤ q = omega arith in
    get_or-set_other s 0 q x 0 e ∙ h.rest q b ∙ sym (get_or-set_other no_rails 0 q x 0 e ∙ (none_within 1).rest q b)))

pub one_place : (bytes : List ℕ) (p : Addresses) (s : List ℕ) (g : Gathered) → p.words ≡ 1 → of_set bytes p s p.words g ≡ of_word bytes p (get_or s 0 0) p.at g
unfolding of_set of_place
one_place bytes p s g e =
    let first : p.at + 0 * 64 * p.block ≡ p.at = omega arith in
    ap (λ (n : ℕ). in_turn n (of_place bytes p s) g) e ∙ ap (λ (b : ℕ). of_word bytes p (get_or s 0 0) b g) first
