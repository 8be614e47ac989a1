-- Laws of `find` and `least`.
-- Assumes nothing.
use mathlib.Core.Path.{◌≡◌, refl, sym, ◌∙◌, ap}
use mathlib.Core.Bool.{Bool, true, false, false≢true}
use Prim.Native.Nat.{ℕ, zero, suc, ◌+◌, ◌-◌, ◌<◌, ◌≤◌}
use native.Mathlib.Nat.{lt_irrefl, add-zero}
use native.Mathlib.Numerals.{add-one}
use native.Mathlib.Omega.{arith}
use Rattle.laws.specs.Tests.{find, least}
use Rattle.laws.proofs.Cases.{by_test, by_less, cond_both, last_or_below}

sub-suc_of : (n j : ℕ) → j < n → n - j ≡ suc (n - suc j)
sub-suc_of n j h = omega arith

module _ (p : ℕ → Bool) where
  -- a loop that has passed j of n numbers: the rest of the search
  pub find-stop : (n j : ℕ) → j < n → p j ≡ true → find p (n - j) j ≡ j
  find-stop n j h e = rw (sub-suc_of n j h, e)

  pub find_skip : (n j : ℕ) → j < n → p j ≡ false → find p (n - j) j ≡ find p (n - (j + 1)) (j + 1)
  find_skip n j h e = rw (sub-suc_of n j h, e, add-one j)

  pub find_none : (n j : ℕ) → n ≤ j → find p (n - j) j ≡ j
  find_none n j h = let z : n - j ≡ 0 = omega arith in rw z

  pub find-le : (n j : ℕ) → find p n j ≤ j + n
  find-le zero j = omega arith
  find-le (suc n) j = let h = find-le n (suc j) in cond_both (λ (r : ℕ). r ≤ j + suc n) (p j) (omega arith) (omega arith)

  pub find-from : (n j : ℕ) → j ≤ find p n j
  find-from zero j = omega arith
  find-from (suc n) j = let h = find-from n (suc j) in cond_both (λ (r : ℕ). j ≤ r) (p j) (omega arith) (omega arith)

  -- the test holds at what was found, and at no number before it
  pub find-hit : (n j : ℕ) → find p n j < j + n → p (find p n j) ≡ true
  find-hit zero j h = absurd (lt_irrefl j (rw add-zero at h))
  find-hit (suc n) j h =
      by_test (p j) (λ e. rw e e)
      (λ e. let k : find p n (suc j) < suc j + n = let h' = rw e at h in omega arith in rw e (find-hit n (suc j) k))

  pub find_before : (n j i : ℕ) → j ≤ i → i < find p n j → p i ≡ false
  find_before zero j i l h = absurd (omega arith)
  find_before (suc n) j i l h =
      by_test (p j) (λ e. let h' : i < j = rw e at h in absurd (omega arith))
      (λ e.
      let h' : i < find p n (suc j) = rw e at h in
      last_or_below j i (omega arith) (λ q. ap p (sym q) ∙ e) (λ k. find_before n (suc j) i k h'))

  -- what was found is the least
  pub find-least : (n j i : ℕ) → j ≤ i → i < j + n → p i ≡ true → find p n j ≤ i
  find-least zero j i l h e = absurd (omega arith)
  find-least (suc n) j i l h e =
      by_test (p j) (λ q. rw q l)
      (λ q. rw q (last_or_below j i (omega arith) (λ s. let z : ◌≡◌ {A = Bool} true false = sym e ∙ ap p (sym s) ∙ q in absurd (no z)) (λ k. find-least n (suc j) i k (omega arith) e)))
    where
      no : true ≡ false → ⊥
      no e = let z : ◌≡◌ {A = ℕ} 0 1 = cc in omega arith

  pub least-le : (n : ℕ) → least n p ≤ n
  least-le n = omega (arith, find-le n 0)

  pub least-hit : (n : ℕ) → least n p < n → p (least n p) ≡ true
  least-hit n h = find-hit n 0 (omega arith)

  pub least_before : (n i : ℕ) → i < least n p → p i ≡ false
  least_before n i h = find_before n 0 i (omega arith) h

  pub least_of_lem : (n i : ℕ) → i < n → p i ≡ true → least n p ≤ i
  least_of_lem n i h e = find-least n 0 i (omega arith) (omega arith) e

-- tests that agree
pub find_ext : (p q : ℕ → Bool) (n j : ℕ) → ((i : ℕ) → j ≤ i → i < j + n → p i ≡ q i) → find p n j ≡ find q n j
find_ext p q zero j h = refl
find_ext p q (suc n) j h =
    let e : p j ≡ q j = h j (omega arith) (omega arith) in
    let r : find p n (suc j) ≡ find q n (suc j) = find_ext p q n (suc j) (λ i l k. h i (omega arith) (omega arith)) in
    rw (e, r)

-- the one number before which the test never holds and at which it does
pub least_is : (p : ℕ → Bool) (n i : ℕ) → i ≤ n → ((j : ℕ) → j < i → p j ≡ false) → (i < n → p i ≡ true) → least n p ≡ i
least_is p n i h before at =
    by_less (least n p) i
    (λ l. absurd (false≢true (sym (before (least n p) l) ∙ least-hit p n (omega arith))))
    (λ l.
    by_less i (least n p)
    (λ k. absurd (false≢true (sym (least_before p n i k) ∙ at (omega (arith, least-le p n)))))
    (λ k. omega arith))
