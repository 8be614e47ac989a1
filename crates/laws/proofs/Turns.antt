-- Laws of steps made one after another.
-- Assumes nothing.
use mathlib.Core.Path.{◌≡◌, refl, sym, ◌∙◌, ap}
use Prim.Native.Nat.{ℕ, zero, suc, ◌+◌, ◌*◌, ◌≤◌, ◌<◌}
use native.Mathlib.Nat.{add-zero}
use native.Mathlib.Numerals.{add-one}
use native.Mathlib.Omega.{arith}
use Rattle.laws.specs.Turns.{in_turn}
use Rattle.laws.proofs.Cases.{last_or_below}

module _ {A : Type 0} where
  pub turns_next : (F : ℕ → A → A) (n : ℕ) (s : A) → in_turn (n + 1) F s ≡ F n (in_turn n F s)
  turns_next F n s = ap (λ (k : ℕ). in_turn k F s) (add-one n)

  pub turns_ext : (F G : ℕ → A → A) (n : ℕ) → ((i : ℕ) → i < n → (s : A) → F i s ≡ G i s) → (s : A) → in_turn n F s ≡ in_turn n G s
  turns_ext F G zero h s = refl
  turns_ext F G (suc n) h s = ap (F n) (turns_ext F G n (λ i l. h i (omega arith)) s) ∙ h n (omega arith) (in_turn n G s)

  pub turns_parts : (F : ℕ → A → A) (m n : ℕ) (s : A) → in_turn (m + n) F s ≡ in_turn n (λ i. F (m + i)) (in_turn m F s)
  turns_parts F m zero s = ap (λ (k : ℕ). in_turn k F s) (add-zero m)
  turns_parts F m (suc n) s =
      let e : m + suc n ≡ suc (m + n) = omega arith in
      ap (λ (k : ℕ). in_turn k F s) e ∙ ap (F (m + n)) (turns_parts F m n s)

  -- m runs of c steps
  pub turns-rect : (F : ℕ → A → A) (m c : ℕ) (s : A) → in_turn (m * c) F s ≡ in_turn m (λ k. in_turn c (λ x. F (k * c + x))) s
  turns-rect F zero c s = let e : 0 * c ≡ 0 = omega arith in ap (λ (k : ℕ). in_turn k F s) e
  turns-rect F (suc m) c s =
      let e : suc m * c ≡ m * c + c = omega arith in
      ap (λ (k : ℕ). in_turn k F s) e ∙ turns_parts F (m * c) c s ∙ ap (in_turn c (λ x. F (m * c + x))) (turns-rect F m c s)

  -- steps from m on that change nothing
  pub turns-idle : (F : ℕ → A → A) (m n : ℕ) → m ≤ n → ((i : ℕ) → m ≤ i → i < n → (s : A) → F i s ≡ s) → (s : A) → in_turn n F s ≡ in_turn m F s
  turns-idle F m zero l h s = let e : 0 ≡ m = omega arith in ap (λ (k : ℕ). in_turn k F s) e
  turns-idle F m (suc n) l h s =
      last_or_below m (suc n) (omega arith) (λ e. ap (λ (k : ℕ). in_turn k F s) (sym e))
      (λ k. h n (omega arith) (omega arith) (in_turn n F s) ∙ turns-idle F m n (omega arith) (λ i p q. h i p (omega arith)) s)
