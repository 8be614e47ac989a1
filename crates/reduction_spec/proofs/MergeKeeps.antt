-- What a merge keeps: each 0 and each 1, equal columns at its height and above, and incompatible ones. Columns that are pairwise equal or
-- incompatible are settled: they are so right after the merge at their height, and merges further down keep them and their numbers.
-- Assumes nothing.
use mathlib.Core.Path.{◌≡◌, refl, sym, ◌∙◌, ap}
use mathlib.Core.Logic.{◌⊎◌, inl, inr}
use mathlib.Core.Bool.{true, false}
use mathlib.Core.List.{List}
use Prim.Native.Nat.{ℕ, zero, suc, ◌+◌, ◌-◌, ◌*◌, ◌/◌, ◌%◌, ◌^◌, ◌<◌, ◌≤◌}
use native.Mathlib.Nat.{le_refl, le_trans, add-mul, mul_assoc, mod-lt}
use native.Mathlib.Omega.{arith}
use borrow.Author.Tests.{ne_eqb}
use lib.ListN.{length, get_or}
use lib.Pow.{pow-add, pow_pos, shr_lt, split}
use Rattle.laws.proofs.Powers.{place_below}
use Rattle.laws.proofs.Cases.{by_less, by_equal, either, no_test}
use Rattle.laws.proofs.Masks.{not-both}
use Rattle.reduction_spec.specs.Columns.{entry, same, number_in, firsts}
use Rattle.reduction_spec.specs.Compatible.{opposite, compatible}
use Rattle.reduction_spec.specs.Cover.{cover}
use Rattle.reduction_spec.specs.Merge.{graph, merge}
use Rattle.reduction_spec.proofs.ColumnNumbers.{same-entry, entry-same, same_sym, first_below, firsts_rise, first_smallest, number_below_lem, number_same, number_equal, width_positive}
use Rattle.reduction_spec.proofs.CompatiblePlaces.{compatible-entry, incompatible_at}
use Rattle.reduction_spec.proofs.CoverPartition.{cover-clique, cover_maximal}
use Rattle.reduction_spec.proofs.OneMerge.{opposite-bits, graph_sym, merge-upper, merge_keeps, merge_joins, merge_parts}

-- opposite values stay so where each 0 and 1 stays
opposite-kept : (x y v w : ℕ) → (x < 2 → v ≡ x) → (y < 2 → w ≡ y) → opposite x y ≡ true → opposite v w ≡ true
opposite-kept x y v w hx hy e =
    let small = opposite-bits x y e in
    rw (hx small.0, hy small.1) e

opposite_self : (x : ℕ) → opposite x x ≡ false
opposite_self x =
    by_equal x 0 (λ e. rw e refl) (λ h. by_equal x 1 (λ e. rw e refl) (λ k. rw (ne_eqb x 0 h, ne_eqb x 1 k) refl))

-- incompatible columns differ
pub incompatible_differ : (n a b : ℕ) (f : List ℕ) (p q : ℕ) → compatible n a b f p q ≡ false → same n a b f p q ≡ false
incompatible_differ n a b f p q e =
    let (k, x, hk, hx, o) = incompatible_at n a b f p q e in
    no_test (same n a b f p q) (λ s.
    not-both o (ap (λ (v : ℕ). opposite (entry n a f p k x) v) (sym (same-entry n a b f p q s k x hk hx)) ∙ opposite_self (entry n a f p k x)))

-- the columns are pairwise equal or incompatible
abbrev pub Settled : ℕ → ℕ → ℕ → List ℕ → Type 0
Settled n a b f =
    (p q : ℕ) → p < 2 ^ (n - a) → q < 2 ^ (n - a) → (same n a b f p q ≡ true) ⊎ (compatible n a b f p q ≡ false)

-- a merge at its own height
module _ (n m a b : ℕ) (f : List ℕ) (ha : a ≤ n) (hb : b ≤ m) where
  abbrev ps : List ℕ
  ps = firsts n a b f

  pub keeps-all : (k x v : ℕ) → k < m → x < 2 ^ n → v < 2 → get_or f (k * 2 ^ n + x) 0 ≡ v → get_or (merge n m a b f) (k * 2 ^ n + x) 0 ≡ v
  keeps-all k x v hk hx hv e =
      by_less k b
      (λ l.
      let c : n - a + a ≡ n = omega arith in
      let hp : x / 2 ^ a < 2 ^ (n - a) = shr_lt (n - a) a (rw c hx) in
      let s = split x a in
      ap (λ (i : ℕ). get_or (merge n m a b f) (k * 2 ^ n + i) 0) (sym s)
      ∙ merge_keeps n a b f (cover-clique (length ps) (graph n a b f ps) (graph_sym n a b f)) m ha hb
      (x / 2 ^ a) k (x % 2 ^ a) v hp l (mod-lt x (pow_pos a)) hv (ap (λ (i : ℕ). get_or f (k * 2 ^ n + i) 0) s ∙ e))
      (λ l. merge-upper n a b f m k x hk hx l ∙ e)

  pub settled_merge : Settled n a b (merge n m a b f)
  settled_merge p q hp hq =
      by_equal _ _ (λ e. inl (merge_joins n a b f m ha hb p q hp hq e))
      (λ e.
      inr (merge_parts n a b f (cover-clique (length ps) (graph n a b f ps) (graph_sym n a b f)) m ha hb
      (cover_maximal (length ps) (graph n a b f ps) (graph_sym n a b f)) p q hp hq e))

-- the columns with a inputs and b outputs, and a merge at the height of a' inputs and b' outputs, which is not higher
module _ (n m a b a' b' : ℕ) (f : List ℕ) (ha' : a' ≤ a) (ha : a ≤ n) (hb' : b' ≤ b) (hb : b ≤ m) where
  abbrev after : List ℕ
  after = merge n m a' b' f

  -- a place of prefix p's column is one of a column with fewer inputs
  pub deeper : (p y z : ℕ) → (p * 2 ^ (a - a') + y) * 2 ^ a' + z ≡ p * 2 ^ a + (y * 2 ^ a' + z)
  deeper p y z =
      let e : a - a' + a' ≡ a = omega arith in
      let s : 2 ^ a ≡ 2 ^ (a - a') * 2 ^ a' = ap (λ (i : ℕ). 2 ^ i) (sym e) ∙ pow-add 2 (a - a') a' in
      let t : p * 2 ^ a ≡ p * 2 ^ (a - a') * 2 ^ a' = ap (λ (i : ℕ). p * i) s ∙ sym (mul_assoc p (2 ^ (a - a')) (2 ^ a')) in
      omega (arith, t, add-mul (p * 2 ^ (a - a')) y (2 ^ a'))

  deeper_below : (p y : ℕ) → p < 2 ^ (n - a) → y < 2 ^ (a - a') → p * 2 ^ (a - a') + y < 2 ^ (n - a')
  deeper_below p y hp hy =
      let e : n - a' - (a - a') ≡ n - a = omega arith in
      place_below (n - a') (a - a') p y (omega arith) (rw e hp) hy

  pub same_deeper : (p q y : ℕ) → y < 2 ^ (a - a') → same n a b f p q ≡ true
      → same n a' b' f (p * 2 ^ (a - a') + y) (q * 2 ^ (a - a') + y) ≡ true
  same_deeper p q y hy e =
      entry-same n a' b' f (p * 2 ^ (a - a') + y) (q * 2 ^ (a - a') + y) (λ k z hk hz.
      ap (λ (i : ℕ). get_or f (k * 2 ^ n + i) 0) (deeper p y z)
      ∙ same-entry n a b f p q e k (y * 2 ^ a' + z) (omega arith) (place_below a a' y z ha' hy hz)
      ∙ ap (λ (i : ℕ). get_or f (k * 2 ^ n + i) 0) (sym (deeper q y z)))

  -- equal columns stay equal
  pub same_kept : (p q : ℕ) → p < 2 ^ (n - a) → q < 2 ^ (n - a) → same n a b f p q ≡ true → same n a b (merge n m a' b' f) p q ≡ true
  same_kept p q hp hq e = entry-same n a b after p q (λ k x hk hx. by_less k b' (low k x hx) (up k x hk hx))
    where
      up : (k x : ℕ) → k < b → x < 2 ^ a → b' ≤ k → entry n a after p k x ≡ entry n a after q k x
      up k x hk hx l =
          merge-upper n a' b' f m k (p * 2 ^ a + x) (omega arith) (place_below n a p x ha hp hx) l
          ∙ same-entry n a b f p q e k x hk hx
          ∙ sym (merge-upper n a' b' f m k (q * 2 ^ a + x) (omega arith) (place_below n a q x ha hq hx) l)

      low : (k x : ℕ) → x < 2 ^ a → k < b' → entry n a after p k x ≡ entry n a after q k x
      low k x hx l =
          let ps = firsts n a' b' f in
          let c : a - a' + a' ≡ a = omega arith in
          let y = x / 2 ^ a' in
          let z = x % 2 ^ a' in
          let u = p * 2 ^ (a - a') + y in
          let v = q * 2 ^ (a - a') + y in
          let hy : y < 2 ^ (a - a') = shr_lt (a - a') a' (rw c hx) in
          let hu = deeper_below p y hp hy in
          let hv = deeper_below q y hq hy in
          let at : (r : ℕ) → r * 2 ^ a + x ≡ (r * 2 ^ (a - a') + y) * 2 ^ a' + z =
          λ r. ap (λ (i : ℕ). r * 2 ^ a + i) (sym (split x a')) ∙ sym (deeper r y z) in
          let j = merge_joins n a' b' f m (le_trans ha' ha) (le_trans hb' hb) u v hu hv
          (ap (λ (i : ℕ). get_or (cover (length ps) (graph n a' b' f ps)) i 0) (number_equal n a' b' f u v hu hv (same_deeper p q y hy e))) in
          ap (λ (i : ℕ). get_or after (k * 2 ^ n + i) 0) (at p)
          ∙ same-entry n a' b' after u v j k z l (mod-lt x (pow_pos a'))
          ∙ ap (λ (i : ℕ). get_or after (k * 2 ^ n + i) 0) (sym (at q))

  -- incompatible columns stay incompatible
  pub incompatible_kept : (p q : ℕ) → p < 2 ^ (n - a) → q < 2 ^ (n - a) → compatible n a b f p q ≡ false
      → compatible n a b (merge n m a' b' f) p q ≡ false
  incompatible_kept p q hp hq e =
      let (k, x, hk, hx, o) = incompatible_at n a b f p q e in
      let at : (r : ℕ) → r < 2 ^ (n - a) → entry n a f r k x < 2 → entry n a after r k x ≡ entry n a f r k x =
      λ r hr h.
      keeps-all n m a' b' f (le_trans ha' ha) (le_trans hb' hb) k (r * 2 ^ a + x) (entry n a f r k x) (omega arith) (place_below n a r x ha hr hx) h refl in
      no_test (compatible n a b after p q) (λ t.
      not-both (opposite-kept (entry n a f p k x) (entry n a f q k x) (entry n a after p k x) (entry n a after q k x)
      (at p hp) (at q hq) o) (compatible-entry n a b after p q t k x hk hx))

  module _ (settled : Settled n a b f) where
    pub settled_kept : Settled n a b (merge n m a' b' f)
    settled_kept p q hp hq =
        either (settled p q hp hq) (λ e. inl (same_kept p q hp hq e)) (λ e. inr (incompatible_kept p q hp hq e))

    pub same_still : (p q : ℕ) → p < 2 ^ (n - a) → q < 2 ^ (n - a) → same n a b (merge n m a' b' f) p q ≡ same n a b f p q
    same_still p q hp hq =
        either (settled p q hp hq) (λ e. same_kept p q hp hq e ∙ sym e)
        (λ e.
        incompatible_differ n a b after p q (incompatible_kept p q hp hq e) ∙ sym (incompatible_differ n a b f p q e))

-- a table in which columns that are equal in f are equal has not more columns than f
module _ (n a b : ℕ) (f g : List ℕ) (joins : (p q : ℕ) → p < 2 ^ (n - a) → q < 2 ^ (n - a) → same n a b f p q ≡ true → same n a b g p q ≡ true) where
  abbrev place : ℕ → ℕ
  place c = number_in n a b f (firsts n a b f) (get_or (firsts n a b g) c 0)

  -- the smallest prefix of a column of g is that of a column of f
  place_first_lem : (c : ℕ) → c < length (firsts n a b g) → get_or (firsts n a b f) (place c) 0 ≡ get_or (firsts n a b g) c 0
  place_first_lem c h =
      let r = get_or (firsts n a b g) c 0 in
      let s = get_or (firsts n a b f) (place c) 0 in
      let hr = first_below n a b g c h in
      let k = number_below_lem n a b f r hr in
      let e = number_same n a b f r hr in
      by_less s r
      (λ l. not-both (same_sym n a b g s r ∙ joins r s hr (first_below n a b f (place c) k) e) (first_smallest n a b g c s h l))
      (λ l. by_less r s
      (λ z. not-both e (first_smallest n a b f (place c) r k z))
      (λ z. omega arith))

  place_rise : (c d : ℕ) → c < d → d < length (firsts n a b g) → place c < place d
  place_rise c d l h =
      let z = firsts_rise n a b g c d l h in
      let ec = place_first_lem c (omega arith) in
      let ed = place_first_lem d h in
      by_less (place c) (place d) (λ k. k)
      (λ k. by_less (place d) (place c)
      (λ j.
      let y = firsts_rise n a b f (place d) (place c) j (number_below_lem n a b f (get_or (firsts n a b g) c 0) (first_below n a b g c (omega arith))) in
      absurd (omega arith))
      (λ j.
      let y : get_or (firsts n a b f) (place c) 0 ≡ get_or (firsts n a b f) (place d) 0 = ap (λ (i : ℕ). get_or (firsts n a b f) i 0) (omega arith) in
      absurd (omega arith)))

  place_from : (c : ℕ) → c < length (firsts n a b g) → c ≤ place c
  place_from zero h = omega arith
  place_from (suc c) h =
      let k = place_from c (omega arith) in
      let l = place_rise c (suc c) (omega arith) h in
      omega arith

  pub width-fewer : length (firsts n a b g) ≤ length (firsts n a b f)
  width-fewer =
      let c = length (firsts n a b g) - 1 in
      let l : c < length (firsts n a b g) = omega (arith, width_positive n a b g) in
      omega (arith, place_from c l, number_below_lem n a b f (get_or (firsts n a b g) c 0) (first_below n a b g c l))

-- after a merge there are not more columns than before
pub width_cliques : (n m a b : ℕ) (f : List ℕ) → a ≤ n → b ≤ m → length (firsts n a b (merge n m a b f)) ≤ length (firsts n a b f)
width_cliques n m a b f ha hb =
    width-fewer n a b f (merge n m a b f) (same_kept n m a b a b f (le_refl a) ha (le_refl b) hb)
