-- The text of bytes as the crate `hex` writes it, and a part of a text written over.
-- Assumes nothing.
use mathlib.Core.Path.{◌≡◌, refl, sym, ◌∙◌, ap₂}
use mathlib.Core.Bool.{Bool, true, false, cond, false≢true}
use mathlib.Core.List.{List, [], ◌∷◌}
use Prim.Native.Nat.{ℕ, zero, suc, ◌*◌, ◌/◌, ◌%◌, ◌<◌}
use native.Mathlib.Omega.{arith}
use lib.Dec.{eqb}
use lib.ListN.{length, get_or}
use borrow.Author.Tests.{eqb-true, eq-eqb}
use Rattle.std.specs.Prelude.{slice_index}
use Rattle.laws.specs.Lists.{tab}
use Rattle.laws.proofs.Tests.{every_at}
use Rattle.laws.proofs.Lists.{by_elements}
use Rattle.hex.specs.Hex.{lower_digits, encode_with, encode_lower}
use Rattle.hex.proofs.HexLemmas.{length-encode_with}
use Rattle.block_text.specs.BlockLine.{hex_sign, digit_at, sign_at}
use Rattle.block_text.proofs.BytesBack.{AreBytes}

sign_is : (d : ℕ) → d < 16 → slice_index lower_digits d ≡ hex_sign d
unfolding hex_sign
sign_is d h = eqb-true _ _ (every_at (λ k. eqb (slice_index lower_digits k) (hex_sign k)) 16 refl d h)

coded_at : (R : List ℕ) (i : ℕ) → AreBytes R → i < 2 * length R → sign_at R i ≡ get_or (encode_lower R) i 0
unfolding encode_with sign_at digit_at
coded_at [] i are h = absurd (omega arith)
coded_at (b ∷ R) zero are h = let few = are 0 in sym (sign_is (b / 16) (omega arith))
coded_at (b ∷ R) (suc zero) are h = let few = are 0 in sym (sign_is (b % 16) (omega arith))
coded_at (b ∷ R) (suc (suc i)) are h =
    let parity : suc (suc i) % 2 ≡ i % 2 = omega arith in
    let half : suc (suc i) / 2 ≡ suc (i / 2) = omega arith in
    ap₂ (λ (p q : ℕ). hex_sign (cond (eqb p 0) (get_or (b ∷ R) q 0 / 16) (get_or (b ∷ R) q 0 % 16))) parity half ∙ coded_at R i (λ k. are (suc k)) (omega arith)

pub coded : (R : List ℕ) → AreBytes R → tab (2 * length R) (sign_at R) ≡ encode_lower R
coded R are = by_elements (encode_lower R) (2 * length R) (sign_at R) (length-encode_with lower_digits R) (λ i h. coded_at R i are h)

-- whether there are bytes
pub no_bytes : (R : List ℕ) (r : Bool) → r ≡ eqb (length R) 0 → r ≡ true → length R ≡ 0
no_bytes R r e h = eqb-true (length R) 0 (sym e ∙ h)

pub some_bytes : (R : List ℕ) (r : Bool) → r ≡ eqb (length R) 0 → r ≡ false → length R ≡ 0 → ⊥
some_bytes R r e h z = false≢true (sym h ∙ e ∙ eq-eqb (length R) 0 z)
