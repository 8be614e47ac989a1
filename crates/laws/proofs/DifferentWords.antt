-- A code that gives n numbers different words below m: n is at most m.
-- Assumes nothing.
use mathlib.Core.Path.{◌≡◌}
use mathlib.Core.Bool.{cond}
use Prim.Native.Nat.{ℕ, zero, suc, ◌-◌, ◌<◌, ◌≤◌}
use native.Mathlib.Nat.{not-suc-le-zero}
use native.Mathlib.Omega.{arith}
use lib.Dec.{ltb}
use borrow.Author.Tests.{lt-ltb, le-ltb}
use Rattle.laws.proofs.Cases.{by_less, cond_yes, cond_no}

-- the words other than a, numbered without a gap
unfoldable without : ℕ → ℕ → ℕ
without a v = cond (ltb v a) v (v - 1)

without_is : {C : Type 0} (a v : ℕ) → (v ≡ a → ⊥) → (v < a → without a v ≡ v → C) → (a < v → without a v ≡ v - 1 → C) → C
unfolding without
without_is a v other f g =
    by_less v a (λ l. f l (cond_yes (ltb v a) v (v - 1) (lt-ltb v a l)))
    (λ l. by_less a v (λ k. g k (cond_no (ltb v a) v (v - 1) (le-ltb v a l))) (λ k. absurd (other (omega arith))))

without_below : (a v m : ℕ) → (v ≡ a → ⊥) → a < suc m → v < suc m → without a v < m
without_below a v m other p q = without_is a v other (λ l e. omega arith) (λ l e. omega arith)

without_one : (a v u : ℕ) → (v ≡ a → ⊥) → (u ≡ a → ⊥) → without a v ≡ without a u → v ≡ u
without_one a v u p q same =
    without_is a v p (λ k d. without_is a u q (λ l e. omega arith) (λ l e. omega arith))
    (λ k d. without_is a u q (λ l e. omega arith) (λ l e. omega arith))

pub different_words : (n m : ℕ) (code : ℕ → ℕ) → ((c : ℕ) → c < n → code c < m)
    → ((c d : ℕ) → c < n → d < n → code c ≡ code d → c ≡ d) → n ≤ m
different_words zero m code fits apart = omega arith
different_words (suc n) zero code fits apart = absurd (not-suc-le-zero (fits 0 (omega arith)))
different_words (suc n) (suc m) code fits apart =
    let other : (c : ℕ) → c < n → code c ≡ code n → ⊥ =
    λ c l e. let same : c ≡ n = apart c n (omega arith) (omega arith) e in omega arith in
    let few : n ≤ m =
    different_words n m (λ c. without (code n) (code c))
    (λ c l. without_below (code n) (code c) m (other c l) (fits n (omega arith)) (fits c (omega arith)))
    (λ c d p q e. apart c d (omega arith) (omega arith) (without_one (code n) (code c) (code d) (other c p) (other d q) e)) in
    omega arith
