-- One step of a descent over the node words.
-- Assumes nothing.
use mathlib.Core.Path.{◌≡◌, refl, sym, ◌∙◌, ap}
use mathlib.Core.Logic.{◌⊎◌, inl, inr}
use mathlib.Core.Bool.{Bool, true, false, cond}
use mathlib.Core.List.{List}
use Prim.Native.Nat.{ℕ, zero, suc, ◌+◌, ◌-◌, ◌*◌, ◌^◌, ◌<◌, ◌≤◌}
use native.Mathlib.Nat.{pow-suc}
use native.Mathlib.Omega.{arith}
use lib.Dec.{eqb, ltb, leb}
use lib.ListN.{length, get_or}
use lib.Pow.{pow_mono}
use borrow.Author.Tests.{lt-ltb, le-ltb, le-leb, eq-eqb, ne_eqb}
use Rattle.laws.specs.Bits.{has}
use Rattle.laws.proofs.Cases.{cond_yes, cond_no}
use Rattle.sheet_spec.specs.Job.{is_input}
use Rattle.reduction_spec.specs.Walk.{low_of, high_of, child}
use Rattle.reduction_spec.specs.Descent.{Reached, reached, descend, descent}
use Rattle.reduction_spec.proofs.WalkSteps.{above}

-- the outputs met stay below 2^20
pub met_more : (k o : ℕ) → (k ≡ 0 → ⊥) → k ≤ 20 → o < 2 ^ (20 - k) → o * 2 + 1 < 2 ^ (20 - (k - 1))
met_more k o n l h =
    let e : 20 - (k - 1) ≡ suc (20 - k) = omega arith in
    omega (arith, ap (λ (i : ℕ). 2 ^ i) e, pow-suc 2 (20 - k))

pub met_twice : (k o : ℕ) → (k ≡ 0 → ⊥) → k ≤ 20 → o < 2 ^ (20 - k) → o * 2 < 2 ^ (20 - (k - 1))
met_twice k o n l h = omega (arith, met_more k o n l h)

pub met_still : (k o : ℕ) → (k ≡ 0 → ⊥) → k ≤ 20 → o < 2 ^ (20 - k) → o < 2 ^ (20 - (k - 1))
met_still k o n l h = omega (arith, met_more k o n l h)

pub met_few : (k o : ℕ) → k ≤ 20 → o < 2 ^ (20 - k) → o < 1048576
met_few k o l h = let m : 20 - k ≤ 20 = omega arith in omega (arith, pow_mono m)

module _ (ws order : List ℕ) (bottom : ℕ) where
  pub descend-bottom : (k v x count o : ℕ) → k ≡ 0 → reached v o ≡ descend ws order bottom k v x count o
  unfolding descend
  descend-bottom k v x count o e = rw e refl

  pub descend-stop : (k v x count o : ℕ) → v < 2 → reached v o ≡ descend ws order bottom k v x count o
  unfolding descend
  descend-stop zero v x count o l = refl
  descend-stop (suc k) v x count o l = sym (cond_yes (ltb v 2) (reached v o) _ (lt-ltb v 2 l))

  -- at the bottom cut, or at a constant
  pub descend-ended : (k v x count o : ℕ) → (k ≡ 0) ⊎ ((k ≡ 0 → ⊥) × (v < 2)) → reached v o ≡ descend ws order bottom k v x count o
  descend-ended k v x count o (inl e) = descend-bottom k v x count o e
  descend-ended k v x count o (inr e) = descend-stop k v x count o e.1

  module _ (k v x count o : ℕ) (n : k ≡ 0 → ⊥) (p : 2 ≤ v) where
    -- the variable at height bottom + k is an input
    abbrev input : Bool
    input = is_input (get_or order (length order - suc (bottom + (k - 1))) 0)

    abbrev down : ℕ → ℕ → ℕ → Reached
    down = λ v count o. descend ws order bottom (k - 1) v x count o

    next : descend ws order bottom k v x count o
        ≡ cond input (down (cond (has x (count - 1)) (high_of ws v) (low_of ws v)) (count - 1) o)
        (cond (eqb (low_of ws v) 0) (down (high_of ws v) count (o * 2 + 1)) (down (low_of ws v) count (o * 2)))
    unfolding descend
    next =
        ap (λ (i : ℕ). descend ws order bottom i v x count o) (above k n) ∙ cond_no (ltb v 2) (reached v o) _ (le-ltb v 2 p)

    module _ (i : ℕ) (b : Bool) (ei : i ≡ bottom + (k - 1)) (eb : b ≡ is_input (get_or order (length order - suc i) 0)) where
      input_is : b ≡ input
      input_is = eb ∙ ap (λ (i : ℕ). is_input (get_or order (length order - suc i) 0)) ei

      pub descend_input : (w y left : ℕ) (r : Reached) → b ≡ true → w ≡ x → left ≡ count - 1 → y ≡ child ws w left v
          → r ≡ descend ws order bottom (k - 1) y x left o → r ≡ descend ws order bottom k v x count o
      unfolding child
      descend_input w y left r yes-b ew el ey er =
          let at : y ≡ cond (has x (count - 1)) (high_of ws v) (low_of ws v) =
          ey ∙ ap (λ (z : ℕ). child ws z left v) ew ∙ ap (λ (z : ℕ). child ws x z v) el in
          er ∙ ap (λ (z : ℕ). down z left o) at ∙ ap (λ (z : ℕ). down (cond (has x (count - 1)) (high_of ws v) (low_of ws v)) z o) el
          ∙ sym (next ∙ cond_yes input _ _ (sym input_is ∙ yes-b))

      pub descend_forced : (low high : ℕ) (r : Reached) → b ≡ false → low ≡ low_of ws v → low ≡ 0 → high ≡ high_of ws v
          → r ≡ descend ws order bottom (k - 1) high x count (o * 2 + 1) → r ≡ descend ws order bottom k v x count o
      descend_forced low high r no-b el z eh er =
          er ∙ ap (λ (y : ℕ). down y count (o * 2 + 1)) eh
          ∙ sym (next ∙ cond_no input _ _ (sym input_is ∙ no-b) ∙ cond_yes (eqb (low_of ws v) 0) _ _ (eq-eqb (low_of ws v) 0 (sym el ∙ z)))

      pub descend-other : (low : ℕ) (r : Reached) → b ≡ false → low ≡ low_of ws v → (low ≡ 0 → ⊥)
          → r ≡ descend ws order bottom (k - 1) low x count (o * 2) → r ≡ descend ws order bottom k v x count o
      descend-other low r no-b el z er =
          er ∙ ap (λ (y : ℕ). down y count (o * 2)) el
          ∙ sym (next ∙ cond_no input _ _ (sym input_is ∙ no-b) ∙ cond_no (eqb (low_of ws v) 0) _ _ (ne_eqb (low_of ws v) 0 (λ s. z (el ∙ s))))

-- a descent from a height of at most 20
pub descent-within : (ws order : List ℕ) (top bottom v x count k : ℕ) (r : Reached) → top ≤ 20 → k ≡ top - bottom
    → r ≡ descend ws order bottom k v x count 0 → r ≡ descent ws order top bottom v x count
unfolding descent
descent-within ws order top bottom v x count k r l ek er =
    er ∙ ap (λ (i : ℕ). descend ws order bottom i v x count 0) ek ∙ sym (cond_yes (leb top 20) _ (reached v 0) (le-leb top 20 l))
