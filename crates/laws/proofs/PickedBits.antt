-- The bits of a number that a test picks, read as a number: bit k of it is the picked bit with k picked ones below it.
-- Assumes nothing.
use mathlib.Core.Path.{◌≡◌, refl, sym, ◌∙◌, ap}
use mathlib.Core.Bool.{Bool, true, false, cond}
use Prim.Native.Nat.{ℕ, zero, suc, ◌+◌, ◌-◌, ◌*◌, ◌^◌, ◌<◌}
use native.Mathlib.Nat.{not-suc-le-zero, pow-suc}
use native.Mathlib.Omega.{arith}
use lib.Dec.{eqb}
use lib.Pow.{pow-add}
use lib.Arith.{digits_lt}
use borrow.Author.Tests.{eq-eqb, ne_eqb}
use Rattle.laws.specs.Tests.{count, sum}
use Rattle.laws.specs.Bits.{bit}
use Rattle.laws.proofs.Cases.{by_test, by_less, last_or_below, cond_yes, cond_no}
use Rattle.laws.proofs.Counts.{count_parts}
use Rattle.laws.proofs.Picked.{count_before, count_place}
use Rattle.laws.proofs.Bits.{bit-lt, bit_past, bit-low, bit_high, same_bits}
use Rattle.laws.proofs.Powers.{add-bit}

unfoldable pub picked_bits : (ℕ → Bool) → ℕ → ℕ → ℕ
picked_bits c z h = sum h (λ g. cond (c g) (bit z g * 2 ^ count g c) 0)

module _ (c : ℕ → Bool) (z : ℕ) where
  bits_yes : (h : ℕ) → c h ≡ true → (picked_bits c z (suc h) ≡ picked_bits c z h + bit z h * 2 ^ count h c) × (count (suc h) c ≡ suc (count h c))
  unfolding picked_bits
  bits_yes h e = (rw e refl, rw e (omega arith))

  bits_no : (h : ℕ) → c h ≡ false → (picked_bits c z (suc h) ≡ picked_bits c z h) × (count (suc h) c ≡ count h c)
  unfolding picked_bits
  bits_no h e = (rw e (omega arith), rw e refl)

  pub picked_bits_lt : (h : ℕ) → picked_bits c z h < 2 ^ count h c
  unfolding picked_bits
  picked_bits_lt zero = omega arith
  picked_bits_lt (suc h) =
      let below = picked_bits_lt h in
      by_test (c h)
      (λ e.
      let (s, k) = bits_yes h e in
      let room : bit z h * 2 ^ count h c + picked_bits c z h < 2 * 2 ^ count h c = digits_lt (bit-lt z h) below in
      let twice : 2 ^ count (suc h) c ≡ 2 * 2 ^ count h c = ap (λ (i : ℕ). 2 ^ i) k ∙ omega (arith, pow-suc 2 (count h c)) in
      omega arith)
      (λ e. let (s, k) = bits_no h e in rw (s, k) below)

  bits-step : (h i : ℕ) → c h ≡ true → bit (picked_bits c z (suc h)) i ≡ cond (eqb i (count h c)) (bit z h) (bit (picked_bits c z h) i)
  bits-step h i e =
      ap (λ (x : ℕ). bit x i) (bits_yes h e).0
      ∙ add-bit (picked_bits c z h) (bit z h) (count h c) i (bit-lt z h) (bit_past (picked_bits c z h) (count h c) (count h c) (picked_bits_lt h) (omega arith))

  pub picked_bits_at : (h g : ℕ) → g < h → c g ≡ true → bit (picked_bits c z h) (count g c) ≡ bit z g
  picked_bits_at zero g l e = absurd (not-suc-le-zero l)
  picked_bits_at (suc h) g l e =
      last_or_below g h l
      (λ s.
      bits-step h (count g c) (ap c (sym s) ∙ e)
      ∙ cond_yes (eqb (count g c) (count h c)) _ _ (eq-eqb (count g c) (count h c) (ap (λ (i : ℕ). count i c) s)) ∙ ap (bit z) (sym s))
      (λ k.
      let fewer = count_before c h g k e in
      by_test (c h)
      (λ p.
      bits-step h (count g c) p ∙ cond_no (eqb (count g c) (count h c)) _ _ (ne_eqb (count g c) (count h c) (λ s. absurd (omega arith)))
      ∙ picked_bits_at h g k e)
      (λ p. ap (λ (x : ℕ). bit x (count g c)) (bits_no h p).0 ∙ picked_bits_at h g k e))

  -- the number with these bits
  pub picked_bits_is : (h x : ℕ) → x < 2 ^ count h c → ((g : ℕ) → g < h → c g ≡ true → bit z g ≡ bit x (count g c)) → picked_bits c z h ≡ x
  picked_bits_is h x l same =
      same_bits (count h c) (picked_bits c z h) x (picked_bits_lt h) l
      (λ i k.
      let (g, g<, e, at) = count_place c h i k in
      ap (bit (picked_bits c z h)) (sym at) ∙ picked_bits_at h g g< e ∙ same g g< e ∙ ap (bit x) at)

-- a number put above another of h bits: its picked bits stand above the other's
pub picked_bits_parts : (c : ℕ → Bool) (u v h k : ℕ) → v < 2 ^ h
    → picked_bits c (u * 2 ^ h + v) (h + k) ≡ picked_bits (λ i. c (h + i)) u k * 2 ^ count h c + picked_bits c v h
picked_bits_parts c u v h k hv =
    let up : ℕ → Bool = λ i. c (h + i) in
    let a = count h c in
    let p = picked_bits up u k in
    let low = picked_bits c v h in
    let low< = picked_bits_lt c v h in
    let room : p * 2 ^ a + low < 2 ^ count (h + k) c =
    rw (ap (λ (i : ℕ). 2 ^ i) (count_parts c h k ∙ omega arith) ∙ pow-add 2 (count k up) a) (digits_lt (picked_bits_lt up u k) low<) in
    picked_bits_is c (u * 2 ^ h + v) (h + k) (p * 2 ^ a + low) room
    (λ g l e.
    by_less g h
    (λ b.
    bit-low u h v g hv b ∙ sym (picked_bits_at c v h g b e) ∙ sym (bit-low p a low (count g c) low< (count_before c h g b e)))
    (λ b.
    let i = g - h in
    let at : h + i ≡ g = omega arith in
    ap (bit (u * 2 ^ h + v)) (sym at) ∙ bit_high u h v i hv ∙ sym (picked_bits_at up u k i (omega arith) (ap c at ∙ e))
    ∙ sym (bit_high p a low (count i up) low<) ∙ ap (bit (p * 2 ^ a + low)) (sym (count_parts c h i) ∙ ap (λ (x : ℕ). count x c) at)))
