-- The least key of a set of columns is the key of its member with fewest edges, ties to the lowest number; where there is none it is gone.
-- Assumes nothing.
use mathlib.Core.Path.{◌≡◌, refl, ◌∙◌, ap, ap₂}
use mathlib.Core.Logic.{◌⊎◌, inl, inr}
use mathlib.Core.Bool.{Bool, true, false, cond, ◌&&◌, ◌||◌}
use mathlib.Core.List.{List}
use Prim.Native.Nat.{ℕ, zero, suc, ◌+◌, ◌*◌, ◌<◌, ◌≤◌, min}
use native.Mathlib.Nat.{not-suc-le-zero}
use native.Mathlib.Omega.{arith}
use borrow.Author.Tests.{eq-eqb, ne_eqb, lt-ltb, le-ltb}
use lib.Dec.{eqb, ltb}
use lib.ListN.{get_or}
use Rattle.laws.proofs.Cases.{by_test, by_less, either, last_or_below, cond_yes, cond_no, and_left_no}
use Rattle.reduction_spec.specs.Cover.{is_in, fewer, fewest}
use Rattle.reduction.specs.RunningKeys.{gone, least_key}

-- the key of column c with e edges, where it is a member
abbrev pub key : Bool → ℕ → ℕ → ℕ
key b e c = cond b (e * 512 + c) gone

-- the keys of the members p with the edges es
abbrev pub Keyed : ℕ → (ℕ → ℕ) → (ℕ → Bool) → List ℕ → Type 0
Keyed w es p keys = (c : ℕ) → c < w → get_or keys c 0 ≡ key (p c) (es c) c

-- of the members below n the column u has the least key k; there is none and k is gone
abbrev pub Found : ℕ → List ℕ → List ℕ → ℕ → ℕ → ℕ → Type 0
Found w es s n k u =
    ((u ≡ w) × (k ≡ gone) × ((d : ℕ) → d < n → is_in s d ≡ false)) ⊎ ((u < n) × (is_in s u ≡ true) × (k ≡ get_or es u 0 * 512 + u))

found_is : (w : ℕ) (es s : List ℕ) (n : ℕ) {k k' u u' : ℕ} → k ≡ k' → u ≡ u' → Found w es s n k' u' → Found w es s n k u
found_is w es s n p q f = rw (p, q) f

module _ (w : ℕ) (graph : List ℕ) (es s keys : List ℕ) (wide : w ≤ 512) (few : (c : ℕ) → c < w → get_or es c 0 ≤ 512)
    (keyed : Keyed w (λ c. get_or es c 0) (is_in s) keys) where
  -- one column more
  step : (n k b : ℕ) → n < w → Found w es s n k b
      → Found w es s (suc n) (min (get_or keys n 0) k) (cond (is_in s n && (eqb b w || ltb (get_or es n 0) (get_or es b 0))) n b)
  step n k b h f = by_test (is_in s n) member other
    where
      a : ℕ
      a = get_or keys n 0

      less : Bool
      less = ltb (get_or es n 0) (get_or es b 0)

      taken : (is_in s n && (eqb b w || less)) ≡ true → a < k → is_in s n ≡ true → a ≡ get_or es n 0 * 512 + n
          → Found w es s (suc n) (min a k) (cond (is_in s n && (eqb b w || less)) n b)
      taken t l m e =
          found_is w es s (suc n) (omega arith) (cond_yes (is_in s n && (eqb b w || less)) n b t) (inr (omega arith, m, e))

      passed : (is_in s n && (eqb b w || less)) ≡ false → k ≤ a → Found w es s (suc n) k b
          → Found w es s (suc n) (min a k) (cond (is_in s n && (eqb b w || less)) n b)
      passed t l r = found_is w es s (suc n) (omega arith) (cond_no (is_in s n && (eqb b w || less)) n b t) r

      member : is_in s n ≡ true → Found w es s (suc n) (min a k) (cond (is_in s n && (eqb b w || less)) n b)
      member m =
          let e : a ≡ get_or es n 0 * 512 + n = keyed n h ∙ cond_yes (is_in s n) (get_or es n 0 * 512 + n) gone m in
          let u = few n h in
          either f
          (λ r. taken (ap₂ (λ (x y : Bool). x && (y || less)) m (eq-eqb b w r.0)) (omega (arith, r.1)) m e)
          (λ r.
          let v = few b (omega (arith, r.0)) in
          let no : eqb b w ≡ false = ne_eqb b w (λ q. absurd (omega (arith, r.0))) in
          by_less (get_or es n 0) (get_or es b 0)
          (λ l.
          taken (ap₂ (λ (x y : Bool). x && y) m (ap₂ (λ (x y : Bool). x || y) no (lt-ltb (get_or es n 0) (get_or es b 0) l))) (omega (arith, r.0, r.2)) m e)
          (λ l.
          passed (ap₂ (λ (x y : Bool). x && y) m (ap₂ (λ (x y : Bool). x || y) no (le-ltb (get_or es n 0) (get_or es b 0) l))) (omega (arith, r.0, r.2))
          (inr (omega (arith, r.0), r.1, r.2))))

      other : is_in s n ≡ false → Found w es s (suc n) (min a k) (cond (is_in s n && (eqb b w || less)) n b)
      other m =
          let e : a ≡ gone = keyed n h ∙ cond_no (is_in s n) (get_or es n 0 * 512 + n) gone m in
          let no = and_left_no (is_in s n) (eqb b w || less) m in
          either f
          (λ r. passed no (omega (arith, r.1)) (inl (r.0, r.1, λ d l. last_or_below d n l (λ q. ap (is_in s) q ∙ m) (λ q. r.2 d q))))
          (λ r.
          let v = few b (omega (arith, r.0)) in
          passed no (omega (arith, r.0, r.2)) (inr (omega (arith, r.0), r.1, r.2)))

  pub least_found : (n : ℕ) → n ≤ w → Found w es s n (least_key keys n) (fewest w graph es s n)
  unfolding fewest fewer least_key
  least_found zero h = inl (refl, refl, λ d l. absurd (not-suc-le-zero l))
  least_found (suc n) h = step n (least_key keys n) (fewest w graph es s n) (omega arith) (least_found n (omega arith))

-- an empty set has no such member
pub fewest_empty : (w : ℕ) (graph es s : List ℕ) (n : ℕ) → ((d : ℕ) → d < n → is_in s d ≡ false) → fewest w graph es s n ≡ w
unfolding fewest
fewest_empty w graph es s zero h = refl
fewest_empty w graph es s (suc n) h =
    let b = fewest w graph es s n in
    cond_no (is_in s n && fewer w graph es n b) n b (and_left_no (is_in s n) (fewer w graph es n b) (h n (omega arith)))
    ∙ fewest_empty w graph es s n (λ d l. h d (omega arith))
