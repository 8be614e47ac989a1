-- Laws of `every`, `any` and `within`.
-- Assumes nothing.
use mathlib.Core.Path.{◌≡◌, refl, sym, ◌∙◌, ap, ap₂}
use mathlib.Core.Bool.{Bool, true, false, not, ◌&&◌, ◌||◌, and-true, and_assoc, or-true, or-false, or_assoc, false≢true, true≢false}
use Prim.Native.Nat.{ℕ, zero, suc, ◌+◌, ◌<◌, ◌≤◌}
use native.Mathlib.Nat.{not-suc-le-zero}
use native.Mathlib.Numerals.{add-one}
use native.Mathlib.Omega.{arith}
use lib.Dec.{eqb, ltb, leb}
use borrow.Author.Tests.{eqb-true, eq-eqb, ltb-true, lt-ltb, leb-true, le-leb, lt-leb}
use Rattle.laws.specs.Tests.{every, any, within}
use Rattle.laws.proofs.Cases.{by_test, last_or_below, and_split, and_join, same_test}

module _ (f : ℕ → Bool) where
  pub every-next : (i : ℕ) → every (i + 1) f ≡ (every i f && f i)
  every-next i = rw add-one refl

  pub any_next : (i : ℕ) → any (i + 1) f ≡ (any i f || f i)
  any_next i = rw add-one refl

  pub every_of : (n : ℕ) → ((i : ℕ) → i < n → f i ≡ true) → every n f ≡ true
  every_of zero h = refl
  every_of (suc n) h = ap₂ ◌&&◌ (every_of n (λ i p. h i (omega arith))) (h n (omega arith))

  pub every_at : (n : ℕ) → every n f ≡ true → (i : ℕ) → i < n → f i ≡ true
  every_at zero p i h = absurd (not-suc-le-zero h)
  every_at (suc n) p i h =
      let both = and_split (every n f) (f n) p in
      last_or_below i n h (λ e. ap f e ∙ both.1) (λ l. every_at n both.0 i l)

  pub every_fails : (n i : ℕ) → i < n → f i ≡ false → every n f ≡ false
  every_fails n i h e = by_test (every n f) (λ p. absurd (false≢true (sym e ∙ every_at n p i h))) (λ p. p)

  -- fewer numbers
  pub every-fewer : (m n : ℕ) → m ≤ n → every n f ≡ true → every m f ≡ true
  every-fewer m n l p = every_of m (λ i h. every_at n p i (omega arith))

  pub any_of : (n i : ℕ) → i < n → f i ≡ true → any n f ≡ true
  any_of zero i h e = absurd (not-suc-le-zero h)
  any_of (suc n) i h e =
      last_or_below i n h (λ p. ap (λ (b : Bool). any n f || b) (ap f (sym p) ∙ e) ∙ or-true (any n f))
      (λ l. ap (λ (b : Bool). b || f n) (any_of n i l e))

  pub any_none : (n : ℕ) → ((i : ℕ) → i < n → f i ≡ false) → any n f ≡ false
  any_none zero h = refl
  any_none (suc n) h = ap₂ ◌||◌ (any_none n (λ i p. h i (omega arith))) (h n (omega arith))

  pub any_out : (n : ℕ) → any n f ≡ false → (i : ℕ) → i < n → f i ≡ false
  any_out n e i h = by_test (f i) (λ p. absurd (false≢true (sym e ∙ any_of n i h p))) (λ p. p)

  -- a number at which the test holds
  pub any_at : (n : ℕ) → any n f ≡ true → (i : ℕ) × (i < n) × (f i ≡ true)
  any_at zero e = absurd (false≢true e)
  any_at (suc n) e =
      by_test (f n) (λ p. (n, omega arith, p))
      (λ p. by_test (any n f) (λ q. let r = any_at n q in (r.0, omega arith, r.2)) (λ q. absurd (false≢true (sym (ap₂ ◌||◌ q p) ∙ e))))

-- a number at which the test fails
pub every_out : (f : ℕ → Bool) (n : ℕ) → every n f ≡ false → (i : ℕ) × (i < n) × (f i ≡ false)
every_out f zero e = absurd (true≢false e)
every_out f (suc n) e =
    by_test (every n f) (λ p. (n, omega arith, sym (ap (λ (b : Bool). b && f n) p) ∙ e)) (λ p. let r = every_out f n p in (r.0, omega arith, r.2))

-- in two parts
pub every_parts : (f : ℕ → Bool) (h k : ℕ) → every (h + k) f ≡ (every h f && every k (λ i. f (h + i)))
every_parts f h zero = let e : h + 0 ≡ h = omega arith in rw e (sym (and-true (every h f)))
every_parts f h (suc k) =
    let e : h + suc k ≡ suc (h + k) = omega arith in
    rw e (ap (λ (b : Bool). b && f (h + k)) (every_parts f h k) ∙ and_assoc (every h f) (every k (λ i. f (h + i))) (f (h + k)))

-- tests that agree below n
pub every_ext : (f g : ℕ → Bool) (n : ℕ) → ((i : ℕ) → i < n → f i ≡ g i) → every n f ≡ every n g
every_ext f g zero h = refl
every_ext f g (suc n) h = ap₂ ◌&&◌ (every_ext f g n (λ i p. h i (omega arith))) (h n (omega arith))

pub any_ext : (f g : ℕ → Bool) (n : ℕ) → ((i : ℕ) → i < n → f i ≡ g i) → any n f ≡ any n g
any_ext f g zero h = refl
any_ext f g (suc n) h = ap₂ ◌||◌ (any_ext f g n (λ i p. h i (omega arith))) (h n (omega arith))

-- one of two tests holds at some number
pub any_or : (f g : ℕ → Bool) (n : ℕ) → (any n f || any n g) ≡ any n (λ i. f i || g i)
any_or f g zero = refl
any_or f g (suc n) = or_turn (any n f) (f n) (any n g) (g n) ∙ ap (λ (b : Bool). b || (f n || g n)) (any_or f g n)
  where
    or_turn : (a b c d : Bool) → ((a || b) || (c || d)) ≡ ((a || c) || (b || d))
    or_turn true b c d = refl
    or_turn false true c d = sym (or-true c)
    or_turn false false c d = refl

-- none of the tests holds, or not each negated one
de_morgan : (a b : Bool) → not (a || b) ≡ (not a && not b)
de_morgan true b = refl
de_morgan false b = refl

pub not-any : (f : ℕ → Bool) (n : ℕ) → not (any n f) ≡ every n (λ i. not (f i))
not-any f zero = refl
not-any f (suc n) = de_morgan (any n f) (f n) ∙ ap (λ (b : Bool). b && not (f n)) (not-any f n)

-- a test at one number; a test beside one that does not vary
pub any_one : (p : ℕ → Bool) (k n : ℕ) → any n (λ q. eqb q k && p q) ≡ (ltb k n && p k)
any_one p k n =
    same_test (any n (λ q. eqb q k && p q)) (ltb k n && p k)
    (λ e.
    let (i, l, h) = any_at (λ q. eqb q k && p q) n e in
    let (s, t) = and_split (eqb i k) (p i) h in
    let same = eqb-true i k s in
    and_join (lt-ltb k n (omega arith)) (ap p (sym same) ∙ t))
    (λ e.
    let (l, t) = and_split (ltb k n) (p k) e in
    any_of (λ q. eqb q k && p q) n k (ltb-true k n l) (and_join (eq-eqb k k refl) t))

pub any_beside : (b : Bool) (f : ℕ → Bool) (n : ℕ) → any n (λ i. b && f i) ≡ (b && any n f)
any_beside true f n = refl
any_beside false f n = any_none (λ i. false) n (λ i l. refl)

-- from the front
pub any_front : (f : ℕ → Bool) (n : ℕ) → any (suc n) f ≡ (f 0 || any n (λ i. f (suc i)))
any_front f zero = sym (or-false (f 0))
any_front f (suc n) =
    ap (λ (b : Bool). b || f (suc n)) (any_front f n) ∙ or_assoc (f 0) (any n (λ i. f (suc i))) (f (suc n))

-- one turn of a loop that tests all, or any, of the numbers below its bound
module _ (f : ℕ → Bool) (i : ℕ) {a b : Bool} where
  pub every-step : a ≡ every i f → b ≡ f i → (a && b) ≡ every (i + 1) f
  every-step p q = ap₂ ◌&&◌ p q ∙ sym (every-next f i)

  pub any_step : a ≡ any i f → b ≡ f i → (a || b) ≡ any (i + 1) f
  any_step p q = ap₂ ◌||◌ p q ∙ sym (any_next f i)

pub every_more : (f : ℕ → Bool) (i : ℕ) → every i f ≡ true → f i ≡ true → every (i + 1) f ≡ true
every_more f i p q = every-next f i ∙ and_join p q

-- a number between two
pub within_yes : (a b x : ℕ) → a ≤ x → x ≤ b → within a b x ≡ true
within_yes a b x l m = ap₂ ◌&&◌ (le-leb a x l) (le-leb x b m)

pub within_low : (a b x : ℕ) → x < a → within a b x ≡ false
within_low a b x l = rw (lt-leb a x l) refl

pub within-high : (a b x : ℕ) → b < x → within a b x ≡ false
within-high a b x l = rw (lt-leb x b l) (and_no (leb a x))
  where
    and_no : (t : Bool) → (t && false) ≡ false
    and_no true = refl
    and_no false = refl

pub within_has : (a b x : ℕ) → within a b x ≡ true → (a ≤ x) × (x ≤ b)
within_has a b x e = let h = and_split (leb a x) (leb x b) e in (leb-true a x h.0, leb-true x b h.1)
