-- The table after the merge at a height: it keeps each 0 and each 1 of the table before; prefixes of one clique have the same column, and
-- prefixes of different cliques have incompatible columns.
-- Assumes nothing.
use mathlib.Core.Path.{◌≡◌, refl, sym, ◌∙◌, ap}
use mathlib.Core.Bool.{true, false, ◌&&◌, true≢false}
use mathlib.Core.List.{List}
use Prim.Native.Nat.{ℕ, ◌+◌, ◌-◌, ◌*◌, ◌%◌, ◌^◌, ◌<◌, ◌≤◌}
use native.Mathlib.Omega.{arith}
use borrow.Author.Tests.{lt-ltb, le-ltb, eq-eqb, eqb-true}
use lib.Dec.{eqb, ltb}
use lib.ListN.{length, get_or}
use lib.Pow.{high, low}
use Rattle.laws.specs.Bits.{flag}
use Rattle.laws.proofs.Bits.{flag_is}
use Rattle.laws.proofs.Powers.{place_below}
use Rattle.laws.proofs.Cases.{by_test, by_less, by_equal, cond_both, and_split, and_join, no_test}
use Rattle.laws.proofs.Tests.{any_of, any_none}
use Rattle.laws.proofs.Masks.{not-both}
use Rattle.laws.proofs.Lists.{get_or-tab, length-rect, get_or-rect, rect-each}
use Rattle.reduction_spec.specs.Columns.{entry, same, number_in, firsts}
use Rattle.reduction_spec.specs.Compatible.{opposite, compatible}
use Rattle.reduction_spec.specs.Cover.{is_in, cover}
use Rattle.reduction_spec.specs.Merge.{holds, product, graph, merge}
use Rattle.reduction_spec.proofs.ColumnNumbers.{same-entry, entry-same, number_below_lem, number_same}
use Rattle.reduction_spec.proofs.CompatiblePlaces.{compatible-entry, incompatible_at, compatible_sym}

-- opposite values are 0 and 1
pub opposite-bits : (x y : ℕ) → opposite x y ≡ true → (x < 2) × (y < 2)
opposite-bits x y e =
    by_test (eqb x 0 && eqb y 1)
    (λ p. let s = and_split (eqb x 0) (eqb y 1) p in (omega (arith, eqb-true x 0 s.0), omega (arith, eqb-true y 1 s.1)))
    (λ p.
    let s = and_split (eqb x 1) (eqb y 0) (rw p at e) in
    (omega (arith, eqb-true x 1 s.0), omega (arith, eqb-true y 0 s.1)))

module _ (n a b : ℕ) (f : List ℕ) where
  abbrev ps : List ℕ
  ps = firsts n a b f

  abbrev w : ℕ
  w = length ps

  abbrev owner : List ℕ
  owner = cover w (graph n a b f ps)

  -- the number of prefix p's column
  abbrev number : ℕ → ℕ
  number p = number_in n a b f ps p

  -- the value of column c at a place
  abbrev value : ℕ → ℕ → ℕ → ℕ
  value c k x = entry n a f (get_or ps c 0) k x

  pub graph_is : (c d : ℕ) → c < w → d < w → is_in (graph n a b f ps) (c * w + d) ≡ compatible n a b f (get_or ps c 0) (get_or ps d 0)
  unfolding graph
  graph_is c d hc hd =
      ap (λ (v : ℕ). eqb v 1) (get_or-rect w (λ c d. flag (compatible n a b f (get_or ps c 0) (get_or ps d 0))) 0 w c d hc hd)
      ∙ flag_is (compatible n a b f (get_or ps c 0) (get_or ps d 0))

  pub graph_sym : (c d : ℕ) → c < w → d < w → is_in (graph n a b f ps) (c * w + d) ≡ is_in (graph n a b f ps) (d * w + c)
  graph_sym c d hc hd = graph_is c d hc hd ∙ compatible_sym n a b f (get_or ps c 0) (get_or ps d 0) ∙ sym (graph_is d c hd hc)

  product_below_lem : (g k x : ℕ) → product n a b f ps owner g k x < 3
  unfolding product
  product_below_lem g k x =
      cond_both (λ v. v < 3) (holds n a b f ps owner 0 g k x) (omega arith)
      (cond_both (λ v. v < 3) (holds n a b f ps owner 1 g k x) (omega arith) (omega arith))

  -- a column's value is one that its clique holds
  holds_it : (v c k x : ℕ) → c < w → value c k x ≡ v → holds n a b f ps owner v (get_or owner c 0) k x ≡ true
  unfolding holds
  holds_it v c k x hc e =
      any_of (λ d. eqb (get_or owner d 0) (get_or owner c 0) && eqb (value d k x) v) w c hc
      (and_join (eq-eqb (get_or owner c 0) (get_or owner c 0) refl) (eq-eqb (value c k x) v e))

  module _ (m : ℕ) where
    abbrev after : List ℕ
    after = merge n m a b f

    pub merge-length : length after ≡ m * 2 ^ n
    unfolding merge
    merge-length = length-rect (2 ^ n) _ m

    pub merge-upper : (k x : ℕ) → k < m → x < 2 ^ n → b ≤ k → get_or after (k * 2 ^ n + x) 0 ≡ get_or f (k * 2 ^ n + x) 0
    unfolding merge
    merge-upper k x hk hx h = get_or-rect (2 ^ n) _ 0 m k x hk hx ∙ simp (le-ltb k b h)

    pub merge_below : (i : ℕ) → ((i : ℕ) → get_or f i 0 < 3) → get_or after i 0 < 3
    unfolding merge
    merge_below i h =
        rect-each (λ v. v < 3) 0 (omega arith) _ (λ k x. cond_both (λ v. v < 3) (ltb k b) (product_below_lem _ k (x % 2 ^ a)) (h (k * 2 ^ n + x))) m (2 ^ n) i

    module _ (ha : a ≤ n) (hb : b ≤ m) where
      pub merge-entry : (p k x : ℕ) → p < 2 ^ (n - a) → k < b → x < 2 ^ a
          → entry n a after p k x ≡ product n a b f ps owner (get_or owner (number p) 0) k x
      unfolding merge
      merge-entry p k x hp hk hx =
          get_or-rect (2 ^ n) _ 0 m k (p * 2 ^ a + x) (omega arith) (place_below n a p x ha hp hx)
          ∙ simp (lt-ltb k b hk, high p a hx, low p a hx, get_or-tab (λ q. get_or owner (number q) 0) 0 (2 ^ (n - a)) p hp)

      pub merge_joins : (p q : ℕ) → p < 2 ^ (n - a) → q < 2 ^ (n - a) → get_or owner (number p) 0 ≡ get_or owner (number q) 0
          → same n a b after p q ≡ true
      merge_joins p q hp hq e =
          entry-same n a b after p q (λ k x hk hx.
          merge-entry p k x hp hk hx ∙ ap (λ (g : ℕ). product n a b f ps owner g k x) e ∙ sym (merge-entry q k x hq hk hx))

  module _ (clique : (c d : ℕ) → c < w → d < w → (c ≡ d → ⊥) → get_or owner c 0 ≡ get_or owner d 0 → is_in (graph n a b f ps) (c * w + d) ≡ true) where
    -- no two members of a clique hold 1 and 0 at a place
    never_both : (c d k x : ℕ) → c < w → d < w → k < b → x < 2 ^ a → get_or owner c 0 ≡ get_or owner d 0 → value c k x ≡ 1 → value d k x ≡ 0 → ⊥
    never_both c d k x hc hd hk hx e u v =
        by_equal c d (λ p. let z : value c k x ≡ value d k x = ap (λ (i : ℕ). value i k x) p in omega arith)
        (λ h.
        let z = compatible-entry n a b f (get_or ps c 0) (get_or ps d 0) (sym (graph_is c d hc hd) ∙ clique c d hc hd h e) k x hk hx in
        true≢false (rw (u, v) at z))

    holds_no_0 : (c k x : ℕ) → c < w → k < b → x < 2 ^ a → value c k x ≡ 1 → holds n a b f ps owner 0 (get_or owner c 0) k x ≡ false
    unfolding holds
    holds_no_0 c k x hc hk hx e =
        any_none (λ d. eqb (get_or owner d 0) (get_or owner c 0) && eqb (value d k x) 0) w (λ d hd.
        no_test (eqb (get_or owner d 0) (get_or owner c 0) && eqb (value d k x) 0) (λ t.
        let s = and_split (eqb (get_or owner d 0) (get_or owner c 0)) (eqb (value d k x) 0) t in
        never_both c d k x hc hd hk hx (sym (eqb-true (get_or owner d 0) (get_or owner c 0) s.0)) e (eqb-true (value d k x) 0 s.1)))

    -- the product keeps each 0 and each 1 of a member
    pub product-keeps : (c k x v : ℕ) → c < w → k < b → x < 2 ^ a → v < 2 → value c k x ≡ v → product n a b f ps owner (get_or owner c 0) k x ≡ v
    unfolding product
    product-keeps c k x v hc hk hx hv e =
        by_equal v 0 (λ z. rw z (simp (holds_it 0 c k x hc (e ∙ z))))
        (λ z.
        let o : v ≡ 1 = omega arith in
        rw o (simp (holds_no_0 c k x hc hk hx (e ∙ o), holds_it 1 c k x hc (e ∙ o))))

    module _ (m : ℕ) (ha : a ≤ n) (hb : b ≤ m) where
      pub merge_keeps : (p k x v : ℕ) → p < 2 ^ (n - a) → k < b → x < 2 ^ a → v < 2 → entry n a f p k x ≡ v → entry n a (after m) p k x ≡ v
      merge_keeps p k x v hp hk hx hv e =
          merge-entry m ha hb p k x hp hk hx
          ∙ product-keeps (number p) k x v (number_below_lem n a b f p hp) hk hx hv
          (sym (same-entry n a b f p (get_or ps (number p) 0) (number_same n a b f p hp) k x hk hx) ∙ e)

      -- a place where a member of p's clique and q's column are opposite
      apart_at_lem : (p q e k x : ℕ) → p < 2 ^ (n - a) → q < 2 ^ (n - a) → e < w → k < b → x < 2 ^ a
          → get_or owner e 0 ≡ get_or owner (number p) 0 → opposite (value e k x) (value (number q) k x) ≡ true
          → compatible n a b (after m) p q ≡ false
      apart_at_lem p q e k x hp hq he hk hx l o =
          let r = opposite-bits (value e k x) (value (number q) k x) o in
          let stays : opposite (entry n a (after m) p k x) (entry n a (after m) q k x) ≡ true =
          rw (merge-entry m ha hb p k x hp hk hx, merge-entry m ha hb q k x hq hk hx, ← l)
          (rw (
            product-keeps e k x (value e k x) he hk hx r.0 refl,
            product-keeps (number q) k x (value (number q) k x) (number_below_lem n a b f q hq) hk hx r.1 refl,
          ) o) in
          no_test (compatible n a b (after m) p q) (λ t. not-both stays (compatible-entry n a b (after m) p q t k x hk hx))

      module _ (maximal : (c d : ℕ) → c < w → d < w → get_or owner c 0 < get_or owner d 0
          → (e : ℕ) × (e < w) × (get_or owner e 0 ≡ get_or owner c 0) × (is_in (graph n a b f ps) (e * w + d) ≡ false)) where
        -- p in the earlier clique
        parts : (p q : ℕ) → p < 2 ^ (n - a) → q < 2 ^ (n - a) → get_or owner (number p) 0 < get_or owner (number q) 0
            → compatible n a b (after m) p q ≡ false
        parts p q hp hq l =
            let hd = number_below_lem n a b f q hq in
            let (e, he, o, g) = maximal (number p) (number q) (number_below_lem n a b f p hp) hd l in
            let (k, x, hk, hx, z) = incompatible_at n a b f (get_or ps e 0) (get_or ps (number q) 0) (sym (graph_is e (number q) he hd) ∙ g) in
            apart_at_lem p q e k x hp hq he hk hx o z

        pub merge_parts : (p q : ℕ) → p < 2 ^ (n - a) → q < 2 ^ (n - a) → (get_or owner (number p) 0 ≡ get_or owner (number q) 0 → ⊥)
            → compatible n a b (after m) p q ≡ false
        merge_parts p q hp hq h =
            by_less (get_or owner (number p) 0) (get_or owner (number q) 0) (parts p q hp hq)
            (λ l. compatible_sym n a b (after m) p q ∙ parts q p hq hp (omega arith))
