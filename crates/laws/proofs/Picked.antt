-- Counts that add up, run backwards or cover all numbers; the places that a test picks, and the lists of what it picks.
-- Assumes nothing.
use mathlib.Core.Path.{◌≡◌, refl, sym, ◌∙◌, ap, ap₂}
use mathlib.Core.Bool.{Bool, true, false, not, cond, ◌&&◌, ◌||◌, and-true, true≢false}
use mathlib.Core.List.{List, [], ◌∷◌, ◌++◌}
use Prim.Native.Nat.{ℕ, zero, suc, ◌+◌, ◌-◌, ◌<◌, ◌≤◌}
use native.Mathlib.Nat.{not-suc-le-zero}
use native.Mathlib.Omega.{arith}
use lib.Dec.{eqb}
use lib.ListN.{length, get_or, length-append, get_or-append}
use lib.Seq.{get_or_at}
use borrow.Author.Tests.{eqb-true, eq-eqb, ne_eqb}
use Rattle.laws.specs.Tests.{count, any, every}
use Rattle.laws.specs.Bits.{flag}
use Rattle.laws.proofs.Cases.{by_test, by_less, last_or_below, same_test, cond_yes, cond_no}
use Rattle.laws.proofs.Tests.{any_at, any_of, every-next}
use Rattle.laws.proofs.Counts.{count_ext, count_none, count-lt}

-- a count as a sum, from its end and from its front, and counted backwards
cond-flag : (b : Bool) (k : ℕ) → cond b (k + 1) k ≡ k + flag b
cond-flag true k = refl
cond-flag false k = omega arith

count_add : (f : ℕ → Bool) (n : ℕ) → count (suc n) f ≡ count n f + flag (f n)
count_add f n = cond-flag (f n) (count n f)

count_front : (f : ℕ → Bool) (n : ℕ) → count (suc n) f ≡ count n (λ k. f (suc k)) + flag (f 0)
count_front f zero = count_add f 0
count_front f (suc n) = omega (arith, count_add f (suc n), count_front f n, count_add (λ k. f (suc k)) n)

pub count_back : (f : ℕ → Bool) (n : ℕ) → count n (λ k. f (n - suc k)) ≡ count n f
count_back f zero = refl
count_back f (suc n) =
    let same : count n (λ k. f (suc n - suc k)) ≡ count n (λ k. f (suc (n - suc k))) =
    count_ext (λ k. f (suc n - suc k)) (λ k. f (suc (n - suc k))) n (λ k h. let e : suc n - suc k ≡ suc (n - suc k) = omega arith in ap f e) in
    let last : f (suc n - suc n) ≡ f 0 = let e : suc n - suc n ≡ 0 = omega arith in ap f e in
    count_add (λ k. f (suc n - suc k)) n ∙ ap (λ (b : Bool). count n (λ k. f (suc n - suc k)) + flag b) last
    ∙ ap (λ (c : ℕ). c + flag (f 0)) (same ∙ count_back (λ k. f (suc k)) n) ∙ sym (count_front f n)

-- tests that never hold both
flag_or : (a b : Bool) → (a ≡ true → b ≡ false) → flag (a || b) ≡ flag a + flag b
flag_or true b h = rw (h refl)
flag_or false b h = omega arith

flag-not : (b : Bool) → flag (not b) + flag b ≡ 1
flag-not true = refl
flag-not false = refl

pub count-not : (f : ℕ → Bool) (n : ℕ) → count n (λ i. not (f i)) + count n f ≡ n
count-not f zero = refl
count-not f (suc n) = omega (arith, count_add f n, count_add (λ i. not (f i)) n, flag-not (f n), count-not f n)

count_or : (f g : ℕ → Bool) (n : ℕ) → ((i : ℕ) → i < n → f i ≡ true → g i ≡ false) → count n (λ i. f i || g i) ≡ count n f + count n g
count_or f g zero h = refl
count_or f g (suc n) h =
    let before = count_or f g n (λ i l. h i (omega arith)) in
    omega (arith, count_add f n, count_add g n, count_add (λ i. f i || g i) n, flag_or (f n) (g n) (h n (omega arith)))

count_never : (n : ℕ) → count n (λ i. false) ≡ 0
count_never zero = refl
count_never (suc n) = count_never n

-- one of them holds everywhere, where their counts are all
pub count-cover : (f g : ℕ → Bool) (n : ℕ) → ((i : ℕ) → i < n → f i ≡ true → g i ≡ false) → count n f + count n g ≡ n
    → (i : ℕ) → i < n → f i ≡ false → g i ≡ true
count-cover f g n h e i l p =
    by_test (g i) (λ q. q)
    (λ q.
    let less : count n f < count n (λ k. not (g k)) =
    count-lt f (λ k. not (g k)) n i (λ k m r. ap not (h k m r)) l p (ap not q) in
    absurd (omega (arith, count-not g n)))

-- a count of 1, and the place of a number among those counted
pub count_once : (f : ℕ → Bool) (n k q : ℕ) → count n f ≤ 1 → k < n → q < n → f k ≡ true → f q ≡ true → k ≡ q
count_once f zero k q e h l a b = absurd (not-suc-le-zero h)
count_once f (suc n) k q e h l a b =
    by_test (f n)
    (λ p.
    let e' : count n f + 1 ≤ 1 = rw p at e in
    let only : (i : ℕ) → i < suc n → f i ≡ true → i ≡ n =
    λ i m r. last_or_below i n m (λ s. s) (λ s. absurd (true≢false (sym r ∙ count_none f n (omega arith) i s))) in
    only k h a ∙ sym (only q l b))
    (λ p.
    let e' : count n f ≤ 1 = rw p at e in
    let below : (i : ℕ) → i < suc n → f i ≡ true → i < n =
    λ i m r. last_or_below i n m (λ s. absurd (true≢false (sym r ∙ ap f s ∙ p))) (λ s. s) in
    count_once f n k q e' (below k h a) (below q l b) a b)

pub count_before : (f : ℕ → Bool) (n k : ℕ) → k < n → f k ≡ true → count k f < count n f
count_before f zero k h a = absurd (not-suc-le-zero h)
count_before f (suc n) k h a =
    last_or_below k n h
    (λ s.
    let one : flag (f n) ≡ 1 = ap flag (ap f (sym s) ∙ a) in
    let same : count k f ≡ count n f = ap (λ (i : ℕ). count i f) s in
    omega (arith, count_add f n))
    (λ l. omega (arith, count_add f n, count_before f n k l a))

pub count_place : (f : ℕ → Bool) (n j : ℕ) → j < count n f → (k : ℕ) × (k < n) × (f k ≡ true) × (count k f ≡ j)
count_place f zero j h = absurd (not-suc-le-zero h)
count_place f (suc n) j h =
    let before : j < count n f → (k : ℕ) × (k < suc n) × (f k ≡ true) × (count k f ≡ j) =
    λ l. let r = count_place f n j l in (r.0, omega arith, r.2, r.3) in
    by_test (f n)
    (λ p.
    let h' : j < count n f + 1 = rw p at h in
    last_or_below j (count n f) (omega arith) (λ s. (n, omega arith, p, sym s)) before)
    (λ p. let h' : j < count n f = rw p at h in before h')

-- a test that holds at one number only
pub count_one : (f : ℕ → Bool) (n k : ℕ) → k < n → f k ≡ true → ((i : ℕ) → i < n → f i ≡ true → i ≡ k) → count n f ≡ 1
count_one f n k l e only =
    let some = count_before f n k l e in
    let two : 1 < count n f → ⊥ =
    λ m.
    let (p, p<, fp, cp) = count_place f n 0 (omega arith) in
    let (q, q<, fq, cq) = count_place f n 1 m in
    let same : count p f ≡ count q f = ap (λ (i : ℕ). count i f) (only p p< fp ∙ sym (only q q< fq)) in
    omega arith in
    by_less 1 (count n f) (λ m. absurd (two m)) (λ m. omega arith)

-- a list to which g h is added at each h that passes the test c
module _ (c : ℕ → Bool) (g : ℕ → ℕ) (l : ℕ → List ℕ) (start : l 0 ≡ [])
    (more : (h : ℕ) → l (suc h) ≡ cond (c h) (l h ++ (g h ∷ [])) (l h)) where
  pub picked_length : (n : ℕ) → length (l n) ≡ count n c
  picked_length zero = rw start
  picked_length (suc n) =
      let before = picked_length n in
      by_test (c n) (λ p. rw (more n, p, length-append) (omega arith)) (λ p. rw (more n, p) before)

  pub picked_at : (n k : ℕ) → k < n → c k ≡ true → get_or (l n) (count k c) 0 ≡ g k
  picked_at zero k h p = absurd (not-suc-le-zero h)
  picked_at (suc n) k h p =
      last_or_below k n h
      (λ s.
      let p' : c n ≡ true = ap c (sym s) ∙ p in
      rw (more n, p') (get_or_at (l n) (g n) [] 0 (count k c) (picked_length n ∙ ap (λ (i : ℕ). count i c) (sym s)) ∙ ap g (sym s)))
      (λ m.
      let inside : count k c < length (l n) = omega (arith, picked_length n, count_before c n k m p) in
      by_test (c n) (λ q. rw (more n, q) (get_or-append (l n) (g n ∷ []) 0 (count k c) inside ∙ picked_at n k m p))
      (λ q. rw (more n, q) (picked_at n k m p)))

  -- each element is g of some number that passes
  pub picked_from : (n j : ℕ) → j < count n c → (k : ℕ) × (k < n) × (c k ≡ true) × (count k c ≡ j) × (get_or (l n) j 0 ≡ g k)
  picked_from n j h =
      let r = count_place c n j h in
      (r.0, r.1, r.2, r.3, ap (λ (i : ℕ). get_or (l n) i 0) (sym r.3) ∙ picked_at n r.0 r.1 r.2)

  -- none twice, where g is not
  pub picked_distinct : (n : ℕ) → ((k q : ℕ) → k < n → q < n → c k ≡ true → c q ≡ true → g k ≡ g q → k ≡ q)
      → (i j : ℕ) → i < count n c → j < count n c → get_or (l n) i 0 ≡ get_or (l n) j 0 → i ≡ j
  picked_distinct n apart i j p q e =
      let a = picked_from n i p in
      let b = picked_from n j q in
      let same : a.0 ≡ b.0 = apart a.0 b.0 a.1 b.1 a.2 b.2 (sym a.4 ∙ e ∙ b.4) in
      sym a.3 ∙ ap (λ (k : ℕ). count k c) same ∙ b.3

-- numbers q 0, .., q (t - 1) of which k, from a on, stand there once each
unfoldable pub among : (ℕ → ℕ) → ℕ → ℕ → ℕ → Bool
among q a k i = any k (λ v. eqb (q i) (a + v))

module _ (q : ℕ → ℕ) (a : ℕ) where
  pub among_at : (k i : ℕ) → among q a k i ≡ true → (v : ℕ) × (v < k) × (q i ≡ a + v)
  unfolding among
  among_at k i e = let r = any_at (λ v. eqb (q i) (a + v)) k e in (r.0, r.1, eqb-true (q i) (a + r.0) r.2)

  pub among_of : (k i v : ℕ) → v < k → q i ≡ a + v → among q a k i ≡ true
  unfolding among
  among_of k i v h e = any_of (λ v. eqb (q i) (a + v)) k v h (eq-eqb (q i) (a + v) e)

  pub count_among : (t k : ℕ) → ((v : ℕ) → v < k → count t (λ i. eqb (q i) (a + v)) ≡ 1) → count t (among q a k) ≡ k
  unfolding among
  count_among t zero h = count_never t
  count_among t (suc k) h =
      count_or (among q a k) (λ i. eqb (q i) (a + k)) t
      (λ i l e. let r = among_at k i e in ne_eqb (q i) (a + k) (λ s. absurd (omega arith)))
      ∙ omega (arith, count_among t k (λ v l. h v (omega arith)), h k (omega arith))

-- as many numbers pass as there are names, where each name is that of one that passes and of no other
pub count_named : (f : ℕ → Bool) (name : ℕ → ℕ) (n w : ℕ) → ((k : ℕ) → k < n → f k ≡ true → name k < w)
    → ((k q : ℕ) → k < n → q < n → f k ≡ true → f q ≡ true → name k ≡ name q → k ≡ q)
    → ((c : ℕ) → c < w → (k : ℕ) × (k < n) × (f k ≡ true) × (name k ≡ c)) → count n f ≡ w
count_named f name n w low apart each =
    count_ext f (among at 0 w) n is ∙ count_among at 0 n w one
  where
    -- w where the number does not pass
    at : ℕ → ℕ
    at k = cond (f k) (name k) w

    passes : (k c : ℕ) → c < w → at k ≡ 0 + c → (f k ≡ true) × (name k ≡ c)
    passes k c l e =
        by_test (f k) (λ p. (p, omega (arith, cond_yes (f k) (name k) w p))) (λ p. absurd (omega (arith, cond_no (f k) (name k) w p)))

    is : (k : ℕ) → k < n → f k ≡ among at 0 w k
    is k l =
        same_test (f k) (among at 0 w k)
        (λ p. among_of at 0 w k (name k) (low k l p) (omega (arith, cond_yes (f k) (name k) w p)))
        (λ p. let (c, c<, e) = among_at at 0 w k p in (passes k c c< e).0)

    one : (c : ℕ) → c < w → count n (λ k. eqb (at k) (0 + c)) ≡ 1
    one c l =
        let (k, k<, p, e) = each c l in
        count_one (λ k. eqb (at k) (0 + c)) n k k< (eq-eqb (at k) (0 + c) (omega (arith, cond_yes (f k) (name k) w p)))
        (λ i i< t.
        let (q, d) = passes i c l (eqb-true (at i) (0 + c) t) in
        apart i k i< k< q p (d ∙ sym e))

-- a test of what is not picked, by its number
pub every_picked : (c F P : ℕ → Bool) (h : ℕ) → ((g : ℕ) → g < h → c g ≡ false → F g ≡ P (count g (λ i. not (c i))))
    → every h (λ g. c g || F g) ≡ every (count h (λ i. not (c i))) P
every_picked c F P zero same = refl
every_picked c F P (suc h) same =
    let before = every_picked c F P h (λ g l. same g (omega arith)) in
    by_test (c h) (λ e. rw e (and-true (every h (λ g. c g || F g)) ∙ before))
    (λ e. rw e (ap₂ ◌&&◌ before (same h (omega arith) e) ∙ sym (every-next P (count h (λ i. not (c i))))))
