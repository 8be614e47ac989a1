-- Planes one height below an input: their columns are the halves of the columns above.
-- Assumes nothing.
use mathlib.Core.Path.{◌≡◌, refl, sym, ◌∙◌, ap, ap₂}
use mathlib.Core.Bool.{Bool, true, ◌&&◌}
use mathlib.Core.List.{List}
use Prim.Native.Nat.{ℕ, suc, ◌+◌, ◌-◌, ◌*◌, ◌/◌, ◌%◌, ◌^◌, ◌<◌, ◌≤◌}
use native.Mathlib.Nat.{mod-eq_of_lt, mod-le, pow-suc}
use native.Mathlib.Omega.{arith}
use borrow.Author.Tests.{lt-ltb, le-ltb}
use lib.Dec.{eqb, ltb}
use lib.Bits.{bit_and, and_mask}
use lib.ListN.{length, get_or}
use lib.Pow.{pow_pos, pow_mono, pow-add, shr_le}
use Rattle.laws.specs.Lists.{puts}
use Rattle.laws.specs.Bits.{has}
use Rattle.laws.proofs.Cases.{by_less, by_equal, cond_both}
use Rattle.laws.proofs.Lists.{row_end}
use Rattle.laws.proofs.Puts.{get_or-puts}
use Rattle.laws.proofs.Bits.{has-low, has-high, has_past}
use Rattle.reduction.specs.Packed.{size, half, lines_mask, candidates_of}
use Rattle.reduction.proofs.packed.Planes.{Plane, inside}

-- Halves below an input. Columns of at most eight places have one word, and their halves are the word's halves
half-small : (s x d : ℕ) → x < 2 ^ 64 → half s x d < 2 ^ 64
unfolding half
half-small s x d h = cond_both (λ (y : ℕ). y < 2 ^ 64) (eqb d 0) (omega (arith, mod-le x (2 ^ s))) (omega (arith, shr_le x s))

half-low : (s x d r : ℕ) → d ≡ 0 → has (half s x d) r ≡ (ltb r s && has x r)
unfolding half
half-low s x d r e = rw e (has-low x s r)

half_high : (s x d r : ℕ) → d ≡ 1 → has (half s x d) r ≡ has x (s + r)
unfolding half
half_high s x d r e = rw e (has-high x s r)

low_inside : (a b j k : ℕ) (t : Bool) → k < 8 → (ltb (j * 8 + k) (8 * 2 ^ a) && (inside (suc a) b j k && t)) ≡ (inside a b j k && t)
low_inside a b j k t hk =
    by_less j (2 ^ a)
    (λ l.
    let more : j < 2 ^ suc a = omega (arith, pow-suc 2 a) in
    let bits : j * 8 + k < 8 * 2 ^ a = omega arith in
    rw (lt-ltb (j * 8 + k) (8 * 2 ^ a) bits, lt-ltb j (2 ^ suc a) more, lt-ltb j (2 ^ a) l) refl)
    (λ l.
    let bits : 8 * 2 ^ a ≤ j * 8 + k = omega arith in
    rw (le-ltb (j * 8 + k) (8 * 2 ^ a) bits, le-ltb j (2 ^ a) l) refl)

high_inside : (a b j k : ℕ) → inside (suc a) b (2 ^ a + j) k ≡ inside a b j k
high_inside a b j k =
    by_less j (2 ^ a)
    (λ l.
    let more : 2 ^ a + j < 2 ^ suc a = omega (arith, pow-suc 2 a) in
    rw (lt-ltb (2 ^ a + j) (2 ^ suc a) more, lt-ltb j (2 ^ a) l) refl)
    (λ l.
    let more : 2 ^ suc a ≤ 2 ^ a + j = omega (arith, pow-suc 2 a) in
    rw (le-ltb (2 ^ a + j) (2 ^ suc a) more, le-ltb j (2 ^ a) l) refl)

one_word : (a : ℕ) → a ≤ 3 → size a ≡ 1
one_word a h = let z : a - 3 ≡ 0 = omega arith in rw z refl

module _ (a b w : ℕ) (t : ℕ → ℕ → ℕ → Bool) (from to : List ℕ) (ha : a < 3) (plane : Plane (suc a) b w t from) where
  first_word : (d : ℕ) → d * size (suc a) + 0 ≡ d
  first_word d = rw (one_word (suc a) ha) (omega arith)

  column_has : (d j k : ℕ) → d < w → j < 8 → k < 8 → has (get_or from d 0) (j * 8 + k) ≡ (inside (suc a) b j k && t d k j)
  column_has d j k hd hj hk =
      let e : 0 * 8 + j ≡ j = omega arith in
      ap (λ (x : ℕ). has (get_or from x 0) (j * 8 + k)) (sym (first_word d))
      ∙ plane.marked d 0 j k hd (pow_pos (suc a - 3)) hj hk ∙ ap (λ (x : ℕ). inside (suc a) b x k && t d k x) e

  column_small : (d : ℕ) → d < w → get_or from d 0 < 2 ^ 64
  column_small d hd = rw (first_word d) at (plane.small d 0 hd (pow_pos (suc a - 3)))

  halves_has : (q j k : ℕ) → q < w * 2 → j < 8 → k < 8
      → has (half (8 * 2 ^ a) (get_or from (q / 2) 0) (q % 2)) (j * 8 + k) ≡ (inside a b j k && t (q / 2) k (q % 2 * 2 ^ a + j))
  halves_has q j k hq hj hk =
      let d = q / 2 in
      let x = get_or from d 0 in
      let hd : d < w = omega arith in
      by_equal (q % 2) 0
      (λ e.
      let place : j ≡ q % 2 * 2 ^ a + j = rw e (omega arith) in
      half-low (8 * 2 ^ a) x (q % 2) (j * 8 + k) e
      ∙ ap (λ (y : Bool). ltb (j * 8 + k) (8 * 2 ^ a) && y) (column_has d j k hd hj hk)
      ∙ low_inside a b j k (t d k j) hk ∙ ap (λ (y : ℕ). inside a b j k && t d k y) place)
      (λ n.
      let e : q % 2 ≡ 1 = omega arith in
      let place : 2 ^ a + j ≡ q % 2 * 2 ^ a + j = rw e (omega arith) in
      let at : 8 * 2 ^ a + (j * 8 + k) ≡ (2 ^ a + j) * 8 + k = omega arith in
      half_high (8 * 2 ^ a) x (q % 2) (j * 8 + k) e ∙ ap (has x) at
      ∙ by_less (2 ^ a + j) 8
      (λ l.
      column_has d (2 ^ a + j) k hd l hk
      ∙ ap₂ (λ (i : Bool) (y : ℕ). i && t d k y) (high_inside a b j k) place)
      (λ l.
      let top : 2 ^ suc a ≤ 8 = pow_mono ha in
      let out : 2 ^ a ≤ j = omega (arith, pow-suc 2 a) in
      has_past x 64 ((2 ^ a + j) * 8 + k) (column_small d hd) (omega arith)
      ∙ sym (ap (λ (y : Bool). (y && ltb k b) && t d k (q % 2 * 2 ^ a + j)) (le-ltb j (2 ^ a) out))))

  split_plane : w ≤ 512 → length to ≡ 1024
      → Plane a b (w * 2) (λ q k x. t (q / 2) k (q % 2 * 2 ^ a + x)) (puts (w * 2) (λ q. half (8 * 2 ^ a) (get_or from (q / 2) 0) (q % 2)) to)
  split_plane hw long =
      let f : ℕ → ℕ = λ q. half (8 * 2 ^ a) (get_or from (q / 2) 0) (q % 2) in
      let single = one_word a (omega arith) in
      let none : (i : ℕ) → i < size a → i ≡ 0 = λ i hi. let l : i < 1 = rw single at hi in omega arith in
      let at : (q i : ℕ) → q < w * 2 → i < size a → get_or (puts (w * 2) f to) (q * size a + i) 0 ≡ f q =
      λ q i hq hi.
      let e : q * size a + i ≡ q = rw (single, none i hi) (omega arith) in
      ap (λ (x : ℕ). get_or (puts (w * 2) f to) x 0) e ∙ get_or-puts f (w * 2) to 0 q hq (omega arith) in
      record {
        marked = λ q i j k hq hi hj hk.
            let z = none i hi in
            let e : j ≡ i * 8 + j = omega arith in
            ap (λ (y : ℕ). has y (j * 8 + k)) (at q i hq hi) ∙ halves_has q j k hq hj hk
            ∙ ap (λ (x : ℕ). inside a b x k && t (q / 2) k (q % 2 * 2 ^ a + x)) e;
        small = λ q i hq hi. rw (at q i hq hi) (half-small (8 * 2 ^ a) (get_or from (q / 2) 0) (q % 2) (column_small (q / 2) (omega arith)));
      }

-- Larger halves are whole words that lie where they are
whole-mask : (x : ℕ) → x < 2 ^ 64 → bit_and x (lines_mask 8) ≡ x
unfolding lines_mask
whole-mask x h = and_mask x 64 ∙ mod-eq_of_lt h

module _ (a b w : ℕ) (t : ℕ → ℕ → ℕ → Bool) (from to : List ℕ) (ha : 3 ≤ a) (plane : Plane (suc a) b w t from) where
  size_double : size (suc a) ≡ size a * 2
  size_double = let e : suc a - 3 ≡ suc (a - 3) = omega arith in ap (λ (x : ℕ). 2 ^ x) e ∙ pow-suc 2 (a - 3)

  size-eight : size a * 8 ≡ 2 ^ a
  size-eight = let e : a - 3 + 3 ≡ a = omega arith in sym (pow-add 2 (a - 3) 3) ∙ ap (λ (x : ℕ). 2 ^ x) e

  -- word i of half q is a word of column q / 2
  in_column : (q i : ℕ) → i < size a → q % 2 * size a + i < size (suc a)
  in_column q i hi =
      let r : q % 2 < 2 = omega arith in
      omega (arith, size_double, row_end (q % 2) 2 (size a) r)

  word_place_lem : (q i : ℕ) → q * size a + i ≡ q / 2 * size (suc a) + (q % 2 * size a + i)
  word_place_lem q i =
      let e : q ≡ q / 2 * 2 + q % 2 = omega arith in
      ap (λ (x : ℕ). x * size a + i) e
      ∙ regroup (q / 2) (q % 2) (size a) i
      ∙ ap (λ (x : ℕ). q / 2 * x + (q % 2 * size a + i)) (sym size_double)
    where
      regroup : (d r s i : ℕ) → (d * 2 + r) * s + i ≡ d * (s * 2) + (r * s + i)
      regroup d r s i = omega arith

  kept_plane : w * 2 * size a ≤ 1024 → length to ≡ 1024
      → Plane a b (w * 2) (λ q k x. t (q / 2) k (q % 2 * 2 ^ a + x)) (puts (w * 2 * size a) (λ i. bit_and (get_or from i 0) (lines_mask 8)) to)
  kept_plane fits long =
      let f : ℕ → ℕ = λ i. bit_and (get_or from i 0) (lines_mask 8) in
      let word_lt : (q i : ℕ) → q < w * 2 → i < size a → get_or from (q / 2 * size (suc a) + (q % 2 * size a + i)) 0 < 2 ^ 64 =
      λ q i hq hi. plane.small (q / 2) (q % 2 * size a + i) (omega arith) (in_column q i hi) in
      let at : (q i : ℕ) → q < w * 2 → i < size a
      → get_or (puts (w * 2 * size a) f to) (q * size a + i) 0 ≡ get_or from (q / 2 * size (suc a) + (q % 2 * size a + i)) 0 =
      λ q i hq hi.
      let l : q * size a + i < w * 2 * size a = omega (arith, row_end q (w * 2) (size a) hq) in
      get_or-puts f (w * 2 * size a) to 0 (q * size a + i) l (omega arith)
      ∙ ap f (word_place_lem q i) ∙ whole-mask (get_or from (q / 2 * size (suc a) + (q % 2 * size a + i)) 0) (word_lt q i hq hi) in
      record {
        marked = λ q i j k hq hi hj hk.
            let place : (q % 2 * size a + i) * 8 + j ≡ q % 2 * 2 ^ a + (i * 8 + j) = place_at (q % 2) i j in
            let within : i * 8 + j < 2 ^ a = omega (arith, size-eight) in
            let above : (q % 2 * size a + i) * 8 + j < 2 ^ suc a = omega (arith, in_column q i hi, size-eight, size_double, pow-suc 2 a) in
            ap (λ (y : ℕ). has y (j * 8 + k)) (at q i hq hi)
            ∙ plane.marked (q / 2) (q % 2 * size a + i) j k (omega arith) (in_column q i hi) hj hk
            ∙ ap₂ (λ (x : Bool) (y : ℕ). (x && ltb k b) && t (q / 2) k y)
            (lt-ltb ((q % 2 * size a + i) * 8 + j) (2 ^ suc a) above ∙ sym (lt-ltb (i * 8 + j) (2 ^ a) within)) place;
        small = λ q i hq hi. rw (at q i hq hi) (word_lt q i hq hi);
      }
    where
      place_at : (r i j : ℕ) → (r * size a + i) * 8 + j ≡ r * 2 ^ a + (i * 8 + j)
      place_at r i j = regroup r (size a) i j ∙ ap (λ (x : ℕ). r * x + (i * 8 + j)) size-eight
        where
          regroup : (r s i j : ℕ) → (r * s + i) * 8 + j ≡ r * (s * 8) + (i * 8 + j)
          regroup r s i j = omega arith

pub halves_plane : (a b w : ℕ) (t : ℕ → ℕ → ℕ → Bool) (from to : List ℕ) → b ≤ 8 → w ≤ 512 → w * 2 * size a ≤ 1024
    → length to ≡ 1024
    → Plane (suc a) b w t from
    → Plane a b (w * 2) (λ q k x. t (q / 2) k (q % 2 * 2 ^ a + x)) (candidates_of true a b (size a) w from to)
unfolding candidates_of
halves_plane a b w t from to hb hw fits long plane =
    by_less a 3 (λ l. rw (lt-ltb a 3 l) (split_plane a b w t from to l plane hw long))
    (λ l. rw (le-ltb a 3 l) (kept_plane a b w t from to l plane fits long))
