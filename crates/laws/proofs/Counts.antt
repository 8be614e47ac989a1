-- Laws of `count` and `sum`.
-- Assumes nothing.
use mathlib.Core.Path.{◌≡◌, refl, sym, ◌∙◌, ap, ap₂}
use mathlib.Core.Bool.{Bool, true, false, cond}
use Prim.Native.Nat.{ℕ, zero, suc, ◌+◌, ◌-◌, ◌*◌, ◌<◌, ◌≤◌}
use native.Mathlib.Nat.{not-suc-le-zero, zero-mul, suc-mul}
use native.Mathlib.Numerals.{add-one}
use native.Mathlib.Omega.{arith}
use Rattle.laws.specs.Tests.{count, sum}
use Rattle.laws.proofs.Cases.{by_test, by_less, last_or_below, cond_both}

module _ (f : ℕ → Bool) where
  pub count_next : (i : ℕ) → count (i + 1) f ≡ cond (f i) (count i f + 1) (count i f)
  count_next i = rw add-one refl

  pub count_yes : (i : ℕ) → f i ≡ true → count (i + 1) f ≡ count i f + 1
  count_yes i e = rw (add-one, e) refl

  pub count_no : (i : ℕ) → f i ≡ false → count (i + 1) f ≡ count i f
  count_no i e = rw (add-one, e) refl

  pub count-max : (n : ℕ) → count n f ≤ n
  count-max zero = omega arith
  count-max (suc n) = let h = count-max n in cond_both (λ (r : ℕ). r ≤ suc n) (f n) (omega arith) (omega arith)

  -- one more number; more numbers
  pub count_more : (n : ℕ) → (count n f ≤ count (suc n) f) × (count (suc n) f ≤ count n f + 1)
  count_more n = cond_both (λ (r : ℕ). (count n f ≤ r) × (r ≤ count n f + 1)) (f n) (omega arith, omega arith) (omega arith, omega arith)

  pub count_rise : (m n : ℕ) → m ≤ n → count m f ≤ count n f
  count_rise m zero h = let e : m ≡ 0 = omega arith in rw e (omega arith)
  count_rise m (suc n) h =
      last_or_below m (suc n) (omega arith) (λ e. rw e (omega arith))
      (λ l. let a = count_rise m n (omega arith) in let b = (count_more n).0 in omega arith)

  -- a count of 0
  pub count_none : (n : ℕ) → count n f ≤ 0 → (i : ℕ) → i < n → f i ≡ false
  count_none zero e i h = absurd (not-suc-le-zero h)
  count_none (suc n) e i h =
      by_test (f n) (λ p. let e' : count n f + 1 ≤ 0 = rw p at e in absurd (omega arith))
      (λ p. let e' : count n f ≤ 0 = rw p at e in last_or_below i n h (λ q. ap f q ∙ p) (λ l. count_none n e' i l))

-- a test that always holds
pub count-always : (n : ℕ) → count n (λ i. true) ≡ n
count-always zero = refl
count-always (suc n) = ap (λ (k : ℕ). k + 1) (count-always n) ∙ add-one n

module _ (f g : ℕ → Bool) where
  pub count_ext : (n : ℕ) → ((i : ℕ) → i < n → f i ≡ g i) → count n f ≡ count n g
  count_ext zero h = refl
  count_ext (suc n) h =
      ap₂ (λ (b : Bool) (k : ℕ). cond b (k + 1) k) (h n (omega arith)) (count_ext n (λ i p. h i (omega arith)))

  pub count-le : (n : ℕ) → ((i : ℕ) → i < n → f i ≡ true → g i ≡ true) → count n f ≤ count n g
  count-le zero h = omega arith
  count-le (suc n) h =
      let less = count-le n (λ i p. h i (omega arith)) in
      by_test (f n) (λ e. rw (e, h n (omega arith) e) (omega arith)) (λ e. rw e (cond_both (λ (r : ℕ). count n f ≤ r) (g n) (omega arith) less))

  -- fewer where one test passes at u and the other does not
  pub count-lt : (n u : ℕ) → ((i : ℕ) → i < n → f i ≡ true → g i ≡ true) → u < n → f u ≡ false → g u ≡ true → count n f < count n g
  count-lt zero u h l p q = absurd (not-suc-le-zero l)
  count-lt (suc n) u h l p q =
      let h' : (i : ℕ) → i < n → f i ≡ true → g i ≡ true = λ i k. h i (omega arith) in
      last_or_below u n l
      (λ e.
      let c = count-le n h' in
      let p' : f n ≡ false = ap f (sym e) ∙ p in
      let q' : g n ≡ true = ap g (sym e) ∙ q in
      rw (p', q') (omega arith))
      (λ k.
      let less = count-lt n u h' k p q in
      by_test (f n) (λ e. rw (e, h n (omega arith) e) (omega arith)) (λ e. rw e (cond_both (λ (r : ℕ). count n f < r) (g n) (omega arith) less)))

-- counted in two parts
pub count_parts : (c : ℕ → Bool) (h k : ℕ) → count (h + k) c ≡ count h c + count k (λ i. c (h + i))
count_parts c h zero = let e : h + 0 ≡ h = omega arith in rw e (omega arith)
count_parts c h (suc k) =
    let e : h + suc k ≡ suc (h + k) = omega arith in
    let before = count_parts c h k in
    rw e (by_test (c (h + k)) (λ p. rw p (omega arith)) (λ p. rw p before))

pub sum-next : (f : ℕ → ℕ) (i : ℕ) → sum (i + 1) f ≡ sum i f + f i
sum-next f i = rw add-one refl

pub sum_ext : (f g : ℕ → ℕ) (n : ℕ) → ((i : ℕ) → i < n → f i ≡ g i) → sum n f ≡ sum n g
sum_ext f g zero h = refl
sum_ext f g (suc n) h = ap₂ (λ (a b : ℕ). a + b) (sum_ext f g n (λ i p. h i (omega arith))) (h n (omega arith))

pub sum-le : (f g : ℕ → ℕ) (n : ℕ) → ((i : ℕ) → i < n → f i ≤ g i) → sum n f ≤ sum n g
sum-le f g zero h = omega arith
sum-le f g (suc n) h = let l = sum-le f g n (λ i p. h i (omega arith)) in let k = h n (omega arith) in omega arith

-- fewer terms; one term
pub sum-fewer : (f : ℕ → ℕ) (m n : ℕ) → m ≤ n → sum m f ≤ sum n f
sum-fewer f m zero h = let e : m ≡ 0 = omega arith in rw e (omega arith)
sum-fewer f m (suc n) h =
    last_or_below m (suc n) (omega arith) (λ e. rw e (omega arith)) (λ l. let k = sum-fewer f m n (omega arith) in omega arith)

pub sum_at : (f : ℕ → ℕ) (n i : ℕ) → i < n → sum i f + f i ≤ sum n f
sum_at f n i h = sum-fewer f (suc i) n h

pub sum_fixed : (n c : ℕ) → sum n (λ i. c) ≡ n * c
sum_fixed zero c = sym (zero-mul c)
sum_fixed (suc n) c = omega (arith, sum_fixed n c, suc-mul n c)

-- from the front
pub sum_front : (f : ℕ → ℕ) (n : ℕ) → sum (suc n) f ≡ f 0 + sum n (λ i. f (suc i))
sum_front f zero = omega arith
sum_front f (suc n) = let e = sum_front f n in omega arith

-- a number below a sum lies in one of its parts
pub record InPart (f : ℕ → ℕ) (n p : ℕ) : Type 0 where
  pub part : ℕ
  pub within : part < n
  pub place : ℕ
  pub below : place < f part
  pub at : p ≡ sum part f + place

pub in_part : (f : ℕ → ℕ) (n p : ℕ) → p < sum n f → InPart f n p
in_part f zero p l = absurd (not-suc-le-zero l)
in_part f (suc n) p l =
    by_less p (sum n f)
    (λ h.
    let r = in_part f n p h in
    record { part = r.part; within = omega (arith, r.within); place = r.place; below = r.below; at = r.at })
    (λ h. record { part = n; within = omega arith; place = p - sum n f; below = omega arith; at = omega arith })
