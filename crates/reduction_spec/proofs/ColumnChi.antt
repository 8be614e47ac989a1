-- The characteristic function of a column: for all values of the inputs some outputs satisfy it, and two columns are the same exactly when
-- their characteristic functions are.
-- Assumes nothing.
use mathlib.Core.Path.{◌≡◌, refl, sym, ◌∙◌, ap}
use mathlib.Core.Bool.{Bool, beq, true, false, cond, false≢true}
use mathlib.Core.List.{List}
use Prim.Native.Nat.{ℕ, zero, suc, ◌+◌, ◌*◌, ◌^◌, ◌<◌}
use native.Mathlib.Omega.{arith}
use borrow.Author.Tests.{eq-eqb, ne_eqb}
use lib.Dec.{eqb}
use lib.ListN.{get_or}
use Rattle.laws.specs.Tests.{every, sum}
use Rattle.laws.specs.Bits.{has, flag}
use Rattle.laws.proofs.Cases.{by_equal, cond_yes, cond_no, same_test, beq_true, eq_beq}
use Rattle.laws.proofs.Tests.{every_of, every_at, every_ext}
use Rattle.laws.proofs.Masks.{flags-lt, has-flags}
use Rattle.sheet_spec.specs.Characteristic.{meets}
use Rattle.reduction_spec.specs.Columns.{entry, same}
use Rattle.reduction_spec.specs.Cofactors.{column_chi}
use Rattle.reduction_spec.proofs.ColumnNumbers.{same-entry, entry-same}

-- a value is met by itself, d by 0
pub meets_own : (v : ℕ) → v < 3 → meets (eqb v 1) v ≡ true
unfolding meets
meets_own zero h = refl
meets_own (suc zero) h = refl
meets_own (suc (suc zero)) h = refl
meets_own (suc (suc (suc v))) h = absurd (omega arith)

-- values met by the same bits are equal
meets_equal : (v u : ℕ) → v < 3 → u < 3 → ((y : Bool) → meets y v ≡ true → meets y u ≡ true) → ((y : Bool) → meets y u ≡ true → meets y v ≡ true) → v ≡ u
unfolding meets
meets_equal zero zero p q to from = refl
meets_equal zero (suc zero) p q to from = absurd (false≢true (to false refl))
meets_equal zero (suc (suc zero)) p q to from = absurd (false≢true (from true refl))
meets_equal zero (suc (suc (suc u))) p q to from = absurd (omega arith)
meets_equal (suc zero) zero p q to from = absurd (false≢true (to true refl))
meets_equal (suc zero) (suc zero) p q to from = refl
meets_equal (suc zero) (suc (suc zero)) p q to from = absurd (false≢true (from false refl))
meets_equal (suc zero) (suc (suc (suc u))) p q to from = absurd (omega arith)
meets_equal (suc (suc zero)) zero p q to from = absurd (false≢true (to true refl))
meets_equal (suc (suc zero)) (suc zero) p q to from = absurd (false≢true (to false refl))
meets_equal (suc (suc zero)) (suc (suc zero)) p q to from = refl
meets_equal (suc (suc zero)) (suc (suc (suc u))) p q to from = absurd (omega arith)
meets_equal (suc (suc (suc v))) u p q to from = absurd (omega arith)

module _ (n a b : ℕ) (f : List ℕ) where
  -- the outputs' bits given by a test
  abbrev outputs_of : (ℕ → Bool) → ℕ
  outputs_of B = sum b (λ k. flag (B k) * 2 ^ k)

  column_of : (p x : ℕ) (B : ℕ → Bool) → ((k : ℕ) → k < b → meets (B k) (entry n a f p k x) ≡ true) → column_chi n a b f p x (outputs_of B) ≡ true
  unfolding column_chi
  column_of p x B each =
      every_of (λ k. meets (has (outputs_of B) k) (entry n a f p k x)) b
      (λ k hk. ap (λ (t : Bool). meets t (entry n a f p k x)) (has-flags B b k hk) ∙ each k hk)

  column_at : (p x k : ℕ) (B : ℕ → Bool) → k < b → column_chi n a b f p x (outputs_of B) ≡ true → meets (B k) (entry n a f p k x) ≡ true
  unfolding column_chi
  column_at p x k B hk e =
      ap (λ (t : Bool). meets t (entry n a f p k x)) (sym (has-flags B b k hk))
      ∙ every_at (λ k. meets (has (outputs_of B) k) (entry n a f p k x)) b e k hk

  pub same-chi : (p q : ℕ) → same n a b f p q ≡ true → (x y : ℕ) → x < 2 ^ a → column_chi n a b f p x y ≡ column_chi n a b f q x y
  unfolding column_chi
  same-chi p q e x y hx =
      every_ext (λ k. meets (has y k) (entry n a f p k x)) (λ k. meets (has y k) (entry n a f q k x)) b
      (λ k hk. ap (meets (has y k)) (same-entry n a b f p q e k x hk hx))

  module _ (small : (i : ℕ) → get_or f i 0 < 3) where
    abbrev entry-small : (p k x : ℕ) → entry n a f p k x < 3
    entry-small p k x = small (k * 2 ^ n + (p * 2 ^ a + x))

    pub column_met : (p x : ℕ) → (y : ℕ) × (y < 2 ^ b) × (column_chi n a b f p x y ≡ true)
    column_met p x =
        let B : ℕ → Bool = λ k. eqb (entry n a f p k x) 1 in
        (outputs_of B, flags-lt B b, column_of p x B (λ k hk. meets_own (entry n a f p k x) (entry-small p k x)))

    -- where the functions agree, a bit that meets a value of one column meets that of the other: the other outputs are met by their own values
    meets-other : (p q x k : ℕ) → ((y : ℕ) → y < 2 ^ b → column_chi n a b f p x y ≡ column_chi n a b f q x y) → k < b → (bit : Bool)
        → meets bit (entry n a f p k x) ≡ true → meets bit (entry n a f q k x) ≡ true
    meets-other p q x k agree hk bit e =
        let B : ℕ → Bool = λ i. cond (eqb i k) bit (eqb (entry n a f p i x) 1) in
        let at : B k ≡ bit = cond_yes (eqb k k) bit (eqb (entry n a f p k x) 1) (eq-eqb k k refl) in
        let met : (i : ℕ) → i < b → meets (B i) (entry n a f p i x) ≡ true =
        λ i hi.
        by_equal i k
        (λ s.
        ap (λ (t : Bool). meets t (entry n a f p i x)) (cond_yes (eqb i k) bit (eqb (entry n a f p i x) 1) (eq-eqb i k s))
        ∙ ap (λ (i : ℕ). meets bit (entry n a f p i x)) s ∙ e)
        (λ s.
        ap (λ (t : Bool). meets t (entry n a f p i x)) (cond_no (eqb i k) bit (eqb (entry n a f p i x) 1) (ne_eqb i k s))
        ∙ meets_own (entry n a f p i x) (entry-small p i x)) in
        ap (λ (t : Bool). meets t (entry n a f q k x)) (sym at)
        ∙ column_at q x k B hk (sym (agree (outputs_of B) (flags-lt B b)) ∙ column_of p x B met)

    pub chi-same : (p q : ℕ) → ((x y : ℕ) → x < 2 ^ a → y < 2 ^ b → column_chi n a b f p x y ≡ column_chi n a b f q x y) → same n a b f p q ≡ true
    chi-same p q agree =
        entry-same n a b f p q (λ k x hk hx.
        meets_equal (entry n a f p k x) (entry n a f q k x) (entry-small p k x) (entry-small q k x)
        (meets-other p q x k (λ y. agree x y hx) hk) (meets-other q p x k (λ y hy. sym (agree x y hx hy)) hk))

    -- two columns are the same exactly when their characteristic functions agree
    pub column_same : (p q : ℕ) → same n a b f p q
        ≡ every (2 ^ a) (λ x. every (2 ^ b) (λ y. beq (column_chi n a b f p x y) (column_chi n a b f q x y)))
    column_same p q =
        let alike : ℕ → ℕ → Bool = λ x y. beq (column_chi n a b f p x y) (column_chi n a b f q x y) in
        same_test (same n a b f p q) (every (2 ^ a) (λ x. every (2 ^ b) (alike x)))
        (λ e.
        every_of (λ x. every (2 ^ b) (alike x)) (2 ^ a) (λ x hx. every_of (alike x) (2 ^ b) (λ y hy. eq_beq _ _ (same-chi p q e x y hx))))
        (λ e.
        chi-same p q (λ x y hx hy.
        beq_true (column_chi n a b f p x y) (column_chi n a b f q x y)
        (every_at (alike x) (2 ^ b) (every_at (λ x. every (2 ^ b) (alike x)) (2 ^ a) e x hx) y hy)))
