-- Permutations of lists that are given by their elements. `Perm` is the kit's, that of Lean's mathlib; its counts are over unary numbers.
-- Assumes nothing.
use mathlib.Core.Path.{◌≡◌, refl, sym, ◌∙◌, ap, ap₂}
use mathlib.Core.Bool.{Bool, true, true≢false, Bool-discrete}
use mathlib.Core.List.Perm
use mathlib.Core.List.{[], ◌∷◌, Perm, count_p, count_p-append, count_p-cons_of_pos, count_p-cons_of_neg, perm_iff_count}
use mathlib.Core.Nat as M
use Prim.Native.Nat.{ℕ, zero, suc, ◌+◌}
use native.Mathlib.Bridge.{from_ℕ, to_ℕ, to_ℕ-from_ℕ, to_ℕ-+, from_hom₂}
use native.Mathlib.Nat.{add-zero}
use Rattle.laws.specs.Tests.{count}
use Rattle.laws.specs.Lists.{tab}
use Rattle.laws.proofs.Cases.{by_test, cond_yes, cond_no}
use Rattle.laws.proofs.Counts.{count-always}

-- the kit's count is ours, where its test passes as ours does
module _ {A : Type 0} {p : A → Type 0} (d : (a : A) → Dec (p a)) (f : ℕ → A) (test : ℕ → Bool)
    (is : (i : ℕ) → test i ≡ true → p (f i)) (shows : (i : ℕ) → p (f i) → test i ≡ true) where
  counted : (n : ℕ) → from_ℕ (count_p d (tab n f)) ≡ count n test
  counted zero = refl
  counted (suc n) =
      ap from_ℕ (count_p-append d (tab n f) (f n ∷ [])) ∙ from_hom₂ M.◌+◌ ◌+◌ to_ℕ-+ (count_p d (tab n f)) (count_p d (f n ∷ []))
      ∙ by_test (test n)
      (λ e. ap₂ ◌+◌ (counted n) (ap from_ℕ (count_p-cons_of_pos d (f n) [] (is n e))) ∙ sym (cond_yes (test n) (count n test + 1) (count n test) e))
      (λ e.
      ap₂ ◌+◌ (counted n) (ap from_ℕ (count_p-cons_of_neg d (f n) [] (λ q. true≢false (sym (shows n q) ∙ e)))) ∙ add-zero (count n test)
      ∙ sym (cond_no (test n) (count n test + 1) (count n test) e))

fromℕ_injective : (a b : M.ℕ) → from_ℕ a ≡ from_ℕ b → a ≡ b
fromℕ_injective a b e = sym (to_ℕ-from_ℕ a) ∙ ap to_ℕ e ∙ to_ℕ-from_ℕ b

module _ {A : Type 0} (f g : ℕ → A) (n m : ℕ) where
  -- a permutation keeps how many elements pass a test, and the number of elements
  pub perm_count : Perm (tab n f) (tab m g) → (test : A → Bool) → count n (λ i. test (f i)) ≡ count m (λ i. test (g i))
  perm_count e test = sym (by f n) ∙ ap from_ℕ (Perm.count_p-eq d e) ∙ by g m
    where
      d : (a : A) → Dec (test a ≡ true)
      d a = Bool-discrete (test a) true

      by : (h : ℕ → A) (k : ℕ) → from_ℕ (count_p d (tab k h)) ≡ count k (λ i. test (h i))
      by h k = counted d h (λ i. test (h i)) (λ i q. q) (λ i q. q) k

  pub perm_length : Perm (tab n f) (tab m g) → n ≡ m
  perm_length e = sym (count-always n) ∙ perm_count e (λ a. true) ∙ count-always m

  -- lists in which each element stands as often are permutations of each other; u a i says that element i of the one is a, v a i of the other
  pub count_perm : (dec : (x y : A) → Dec (x ≡ y)) (u v : A → ℕ → Bool)
      → ((a : A) (i : ℕ) → u a i ≡ true → f i ≡ a) → ((a : A) (i : ℕ) → f i ≡ a → u a i ≡ true)
      → ((a : A) (i : ℕ) → v a i ≡ true → g i ≡ a) → ((a : A) (i : ℕ) → g i ≡ a → v a i ≡ true)
      → ((a : A) → count n (u a) ≡ count m (v a)) → Perm (tab n f) (tab m g)
  count_perm dec u v u-is u-shows v_is v-shows often =
      (perm_iff_count dec).1
      (λ a.
      fromℕ_injective _ _
      (counted (λ x. dec x a) f (u a) (u-is a) (u-shows a) n ∙ often a ∙ sym (counted (λ x. dec x a) g (v a) (v_is a) (v-shows a) m)))
