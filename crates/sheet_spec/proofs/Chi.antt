-- A row of outputs satisfies the characteristic function exactly when each output has an allowed value; and which value a forced output allows.
-- Assumes nothing.
use mathlib.Core.Path.{◌≡◌, refl, sym, ◌∙◌, ap}
use mathlib.Core.Bool.{Bool, true, ◌||◌, or-false}
use mathlib.Core.List.{List}
use Prim.Native.Nat.{ℕ, zero, suc, ◌<◌}
use native.Mathlib.Omega.{arith}
use lib.Dec.{eqb}
use borrow.Author.Tests.{ne_eqb}
use Rattle.laws.specs.Tests.{every}
use Rattle.laws.specs.Bits.{bit, has}
use Rattle.laws.proofs.Cases.{by_equal}
use Rattle.laws.proofs.Tests.{every_ext}
use Rattle.laws.proofs.Bits.{bit-lt}
use Rattle.laws.proofs.Masks.{not-both}
use Rattle.sheet_spec.specs.Values.{value, allows, free}
use Rattle.sheet_spec.specs.Characteristic.{meets, chi}

-- of one output: b is its bit, v its value
pub meets-allows : (b v : ℕ) → b < 2 → meets (eqb b 1) v ≡ allows v b
unfolding meets allows
meets-allows zero v h = ap (λ (x : Bool). x || eqb v free) (or-false (eqb v 0))
meets-allows (suc zero) v h = refl
meets-allows (suc (suc b)) v h = absurd (omega arith)

pub chi-allows : (m : ℕ) (s : List ℕ) (w y : ℕ) → chi m s w y ≡ every m (λ i. allows (value s w i) (bit y i))
unfolding chi
chi-allows m s w y =
    every_ext (λ i. meets (has y i) (value s w i)) (λ i. allows (value s w i) (bit y i)) m
    (λ i h. meets-allows (bit y i) (value s w i) (bit-lt y i))

-- a forced value allows itself alone
pub forced_only : (v b c : ℕ) → c < 2 → v ≡ c → allows v b ≡ true → b ≡ c
unfolding allows
forced_only v b c low e a =
    by_equal v b (λ p. sym p ∙ e)
    (λ p.
    let other = ne_eqb v free (λ z. omega arith) in
    not-both a (rw (ne_eqb v b p, other) refl))
