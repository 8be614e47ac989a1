-- The planes of the cliques' products are those of the columns after the merge.
-- Assumes nothing.
use mathlib.Core.Path.{◌≡◌, refl, sym, ◌∙◌, ap}
use mathlib.Core.Bool.{Bool, true, false, ◌&&◌}
use mathlib.Core.List.{List}
use Prim.Native.Nat.{ℕ, ◌+◌, ◌*◌, ◌^◌, ◌<◌, ◌≤◌}
use native.Mathlib.Omega.{arith}
use borrow.Author.Tests.{eq-eqb, eqb-true, ltb-true}
use lib.Dec.{eqb, ltb}
use lib.ListN.{length, get_or}
use Rattle.laws.specs.Tests.{any}
use Rattle.laws.proofs.Cases.{by_test, by_equal, cond_both, and_split, same_test}
use Rattle.laws.proofs.Tests.{any_at, any_ext}
use Rattle.laws.proofs.Lists.{length-tab, get_or-tab}
use Rattle.reduction_spec.specs.Numbering.{index_in, firsts_of}
use Rattle.reduction_spec.specs.Columns.{entry, firsts}
use Rattle.reduction_spec.specs.Cover.{is_in, cover}
use Rattle.reduction_spec.specs.Merge.{holds, product, graph, merge}
use Rattle.reduction.specs.Distinct.{same_owner}
use Rattle.reduction_spec.proofs.Numbering.{numbered, index_same, index_equal, index_first}
use Rattle.reduction_spec.proofs.ColumnNumbers.{first_below, number-first}
use Rattle.reduction_spec.proofs.CoverPartition.{cover-clique}
use Rattle.reduction_spec.proofs.OneMerge.{graph_sym, product-keeps, merge-entry}
use Rattle.reduction.proofs.packed.Planes.{Plane, inside}
use Rattle.reduction.proofs.heights.ColumnsByName.{owner_equivalence, firsts_after}

-- tests that agree inside the columns have the same planes
pub plane_ext : (a b w : ℕ) (s t : ℕ → ℕ → ℕ → Bool) (zs : List ℕ) → ((c k x : ℕ) → c < w → k < b → x < 2 ^ a → s c k x ≡ t c k x)
    → Plane a b w s zs → Plane a b w t zs
plane_ext a b w s t zs h p =
    record {
      marked = λ c i j k hc hi hj hk.
          p.marked c i j k hc hi hj hk
          ∙ when (inside a b (i * 8 + j) k) (s c k (i * 8 + j)) (t c k (i * 8 + j))
          (λ e.
          let (x, y) = and_split (ltb (i * 8 + j) (2 ^ a)) (ltb k b) e in
          h c k (i * 8 + j) hc (ltb-true k b y) (ltb-true (i * 8 + j) (2 ^ a) x));
      small = p.small;
    }
  where
    when : (i x y : Bool) → (i ≡ true → x ≡ y) → (i && x) ≡ (i && y)
    when true x y e = e refl
    when false x y e = refl

module _ (n m a b : ℕ) (g : List ℕ) (ha : a ≤ n) (hb : b ≤ m) where
  abbrev ps : List ℕ
  ps = firsts n a b g

  abbrev owner : List ℕ
  owner = cover (length ps) (graph n a b g ps)

  abbrev clique : (c d : ℕ) → c < length ps → d < length ps → (c ≡ d → ⊥) → get_or owner c 0 ≡ get_or owner d 0
      → is_in (graph n a b g ps) (c * length ps + d) ≡ true
  clique = cover-clique (length ps) (graph n a b g ps) (graph_sym n a b g)

  -- a product is 0 or 1 exactly where a member has it
  product_is : (q k x v : ℕ) → k < b → x < 2 ^ a → v < 2 → eqb (product n a b g ps owner q k x) v ≡ holds n a b g ps owner v q k x
  unfolding holds product
  product_is q k x v hk hx hv =
      same_test (eqb (product n a b g ps owner q k x) v) (holds n a b g ps owner v q k x)
      (λ e.
      by_test (holds n a b g ps owner v q k x) (λ h. h)
      (λ h. absurd (other (eqb-true (product n a b g ps owner q k x) v e) h)))
      (λ e.
      let (c, hc, s) = any_at (λ c. eqb (get_or owner c 0) q && eqb (entry n a g (get_or ps c 0) k x) v) (length ps) e in
      let (o, is) = and_split (eqb (get_or owner c 0) q) (eqb (entry n a g (get_or ps c 0) k x) v) s in
      eq-eqb (product n a b g ps owner q k x) v
      (ap (λ (q : ℕ). product n a b g ps owner q k x) (sym (eqb-true (get_or owner c 0) q o))
      ∙ product-keeps n a b g clique c k x v hc hk hx hv (eqb-true (entry n a g (get_or ps c 0) k x) v is)))
    where
      other : product n a b g ps owner q k x ≡ v → holds n a b g ps owner v q k x ≡ false → ⊥
      other e h =
          by_equal v 0
          (λ z.
          let none : holds n a b g ps owner 0 q k x ≡ false = ap (λ (u : ℕ). holds n a b g ps owner u q k x) (sym z) ∙ h in
          cond_both (λ u. u ≡ 0 → ⊥) (holds n a b g ps owner 1 q k x) (λ y. omega arith) (λ y. omega arith) (rw none at (e ∙ z)))
          (λ z.
          let o : v ≡ 1 = omega arith in
          let none : holds n a b g ps owner 1 q k x ≡ false = ap (λ (u : ℕ). holds n a b g ps owner u q k x) (sym o) ∙ h in
          cond_both (λ u. u ≡ 1 → ⊥) (holds n a b g ps owner 0 q k x) (λ y. omega arith) (λ y. omega arith) (rw none at (e ∙ o)))

  abbrev G : List ℕ
  G = firsts_of (same_owner owner) (length ps)

  -- a column's clique number is i exactly where it has the owner of the first column of clique i
  clique_is : (c i : ℕ) → c < length ps → i < length G → eqb (index_in (same_owner owner) G c) i ≡ eqb (get_or owner c 0) (get_or owner (get_or G i 0) 0)
  unfolding same_owner
  clique_is c i hc hi =
      let e = owner_equivalence owner in
      let num = numbered (same_owner owner) e (length ps) in
      same_test (eqb (index_in (same_owner owner) G c) i) (eqb (get_or owner c 0) (get_or owner (get_or G i 0) 0))
      (λ z.
      ap (λ (i : ℕ). same_owner owner c (get_or G i 0)) (sym (eqb-true (index_in (same_owner owner) G c) i z))
      ∙ index_same (same_owner owner) e G c (num.found c hc))
      (λ z.
      eq-eqb (index_in (same_owner owner) G c) i
      (index_equal (same_owner owner) e G c (get_or G i 0) z ∙ index_first (same_owner owner) e (length ps) G num i hi))

  pub after-width : length (firsts n a b (merge n m a b g)) ≡ length (firsts_of (same_owner owner) (length ps))
  after-width = ap (λ (l : List ℕ). length l) (firsts_after n m a b g ha hb) ∙ length-tab (λ i. get_or ps (get_or G i 0) 0) (length G)

  pub product_plane : (v : ℕ) → v < 2 → (nums zs : List ℕ) → ((c : ℕ) → c < length ps → get_or nums c 0 ≡ index_in (same_owner owner) (firsts_of (same_owner owner) (length ps)) c)
      → Plane a b (length (firsts_of (same_owner owner) (length ps))) (λ i k x. any (length ps) (λ c. eqb (get_or nums c 0) i && eqb (entry n a g (get_or ps c 0) k x) v)) zs
      → Plane a b (length (firsts n a b (merge n m a b g))) (λ i k x. eqb (entry n a (merge n m a b g) (get_or (firsts n a b (merge n m a b g)) i 0) k x) v) zs
  unfolding holds
  product_plane v hv nums zs is plane =
      rw after-width
      (plane_ext a b (length G) (λ i k x. any (length ps) (λ c. eqb (get_or nums c 0) i && eqb (entry n a g (get_or ps c 0) k x) v))
      (λ i k x. eqb (entry n a (merge n m a b g) (get_or (firsts n a b (merge n m a b g)) i 0) k x) v) zs
      (λ i k x hi hk hx.
      let e = owner_equivalence owner in
      let num = numbered (same_owner owner) e (length ps) in
      let c = get_or G i 0 in
      let hc = num.below i hi in
      let first : get_or (firsts n a b (merge n m a b g)) i 0 ≡ get_or ps c 0 =
      ap (λ (l : List ℕ). get_or l i 0) (firsts_after n m a b g ha hb) ∙ get_or-tab (λ i. get_or ps (get_or G i 0) 0) 0 (length G) i hi in
      any_ext (λ d. eqb (get_or nums d 0) i && eqb (entry n a g (get_or ps d 0) k x) v) (λ d. eqb (get_or owner d 0) (get_or owner c 0) && eqb (entry n a g (get_or ps d 0) k x) v) (length ps)
      (λ d hd. ap (λ (y : Bool). y && eqb (entry n a g (get_or ps d 0) k x) v) (ap (λ (y : ℕ). eqb y i) (is d hd) ∙ clique_is d i hd hi))
      ∙ sym (product_is (get_or owner c 0) k x v hk hx hv)
      ∙ ap (λ (y : ℕ). eqb y v)
      (ap (λ (q : ℕ). product n a b g ps owner (get_or owner q 0) k x) (sym (number-first n a b g c hc))
      ∙ sym (merge-entry n a b g m ha hb (get_or ps c 0) k x (first_below n a b g c hc) hk hx)
      ∙ ap (λ (p : ℕ). entry n a (merge n m a b g) p k x) (sym first)))
      plane)
