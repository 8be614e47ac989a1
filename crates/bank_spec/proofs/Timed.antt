-- What a right period and phase are.
-- Assumes nothing.
use mathlib.Core.Path.{◌≡◌, refl}
use mathlib.Core.Bool.{Bool, true, false, ◌||◌, false≢true}
use mathlib.Core.Logic.{◌⊎◌, inl, inr}
use Prim.Native.Nat.{ℕ, ◌<◌, ◌≤◌}
use native.Mathlib.Omega.{arith}
use lib.Dec.{eqb, ltb}
use borrow.Author.Tests.{eqb-true, ltb-true}
use Rattle.laws.proofs.Cases.{either, and_split}
use Rattle.bank_spec.specs.Due.{timed}

module _ (p f : ℕ) (t : timed p f ≡ true) where
  pub timed_one_of : ((p ≡ 1) ⊎ (p ≡ 2) ⊎ (p ≡ 4) ⊎ (p ≡ 8)) × (f < p)
  unfolding timed
  timed_one_of =
      let a = and_split (eqb p 1 || eqb p 2 || eqb p 4 || eqb p 8) (ltb f p) t in
      (by (eqb p 1) (eqb p 2) (eqb p 4) (eqb p 8) refl refl refl refl a.0, ltb-true f p a.1)
    where
      by : (a b c d : Bool) → eqb p 1 ≡ a → eqb p 2 ≡ b → eqb p 4 ≡ c → eqb p 8 ≡ d → (a || b || c || d) ≡ true
          → (p ≡ 1) ⊎ (p ≡ 2) ⊎ (p ≡ 4) ⊎ (p ≡ 8)
      by true b c d e g h i j = inl (eqb-true p 1 e)
      by false true c d e g h i j = inr (inl (eqb-true p 2 g))
      by false false true d e g h i j = inr (inr (inl (eqb-true p 4 h)))
      by false false false true e g h i j = inr (inr (inr (eqb-true p 8 i)))
      by false false false false e g h i j = absurd (false≢true j)

  pub timed-small : (p ≤ 8) × (f < 8)
  timed-small =
      let few : p ≤ 8 =
      either timed_one_of.0 (λ e. omega arith)
      (λ o. either o (λ e. omega arith) (λ o. either o (λ e. omega arith) (λ e. omega arith))) in
      (few, omega (arith, few, timed_one_of.1))
