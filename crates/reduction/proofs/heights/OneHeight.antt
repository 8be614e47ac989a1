-- One height further down, as the code goes: its columns, cliques, child numbers and planes are those of the table after the merge there.
-- Assumes nothing.
use mathlib.Core.Path.{◌≡◌, sym, ◌∙◌, ap, ap₂}
use mathlib.Core.Bool.{Bool, ◌&&◌}
use mathlib.Core.List.{List}
use Prim.Native.Nat.{ℕ, ◌*◌, ◌<◌, ◌≤◌}
use native.Mathlib.Nat.{mul-le-mul_right}
use native.Mathlib.Omega.{arith}
use lib.Dec.{eqb}
use lib.ListN.{length, get_or, replicate}
use lib.Seq.{sets}
use Rattle.laws.specs.Tests.{any}
use Rattle.laws.specs.Lists.{puts}
use Rattle.laws.proofs.Tests.{any_ext}
use Rattle.laws.proofs.Filled.{laid}
use Rattle.laws.proofs.Puts.{stored}
use Rattle.reduction_spec.specs.Numbering.{index_in, firsts_of}
use Rattle.reduction_spec.specs.Columns.{entry, number_in, firsts}
use Rattle.reduction_spec.specs.Cover.{cover}
use Rattle.reduction_spec.specs.Merge.{graph, merge}
use Rattle.reduction.specs.Packed.{size, added_columns}
use Rattle.reduction.specs.Distinct.{same_words, same_owner}
use Rattle.reduction.specs.Lowering.{link_flags, owners, clique_firsts, clique_of, candidate_count, plane_below, firsts_below, cliques_below, number_below, product_below}
use Rattle.reduction_spec.proofs.Numbering.{numbered, length-few}
use Rattle.reduction.proofs.packed.Planes.{Plane}
use Rattle.reduction.proofs.packed.PlanesMade.{added_plane}
use Rattle.reduction_spec.proofs.ColumnsBelow.{Names}
use Rattle.reduction.proofs.heights.ColumnsByName.{words_equivalence, owner_equivalence, width_named, first_named, number_named, cover_named, number-after}
use Rattle.reduction.proofs.heights.CliqueProducts.{plane_ext, after-width, product_plane}

module _ (n m a b : ℕ) (g : List ℕ) (ha : a ≤ n) (hb : b ≤ m) (few : b ≤ 8) (small : (i : ℕ) → get_or g i 0 < 3) (input : Bool) (w : ℕ) (zs os : List ℕ)
    (name : ℕ → ℕ) (names : Names n a b g (candidate_count input a b (size a) w zs os) name)
    (zeros : Plane a b (candidate_count input a b (size a) w zs os) (λ q k x. eqb (entry n a g (name q) k x) 0) (plane_below input a b (size a) w zs os zs))
    (ones : Plane a b (candidate_count input a b (size a) w zs os) (λ q k x. eqb (entry n a g (name q) k x) 1) (plane_below input a b (size a) w zs os os)) where
  abbrev Q : ℕ
  Q = candidate_count input a b (size a) w zs os

  abbrev bz : List ℕ
  bz = plane_below input a b (size a) w zs os zs

  abbrev bo : List ℕ
  bo = plane_below input a b (size a) w zs os os

  abbrev L : List ℕ
  L = firsts_below input a b (size a) w zs os

  abbrev R : ℕ → ℕ → Bool
  R = same_words bz bo (size a)

  abbrev ps : List ℕ
  ps = firsts n a b g

  abbrev owner : List ℕ
  owner = cover (length ps) (graph n a b g ps)

  abbrev after : List ℕ
  after = merge n m a b g

  -- before the merge
  pub below_width : length (firsts n a b g) ≡ length (firsts_below input a b (size a) w zs os)
  unfolding firsts_below
  below_width = width_named n a b g few small Q name names bz bo zeros ones

  below_first : (c : ℕ) → c < length L → get_or ps c 0 ≡ name (get_or L c 0)
  unfolding firsts_below
  below_first = first_named n a b g few small Q name names bz bo zeros ones

  below_number : (q : ℕ) → q < Q → number_in n a b g ps (name q) ≡ index_in R L q
  unfolding firsts_below
  below_number = number_named n a b g few small Q name names bz bo zeros ones

  below_owners : owners (size a) bz bo (length L) L ≡ owner
  unfolding firsts_below owners link_flags
  below_owners = cover_named n a b g few small Q name names bz bo zeros ones

  abbrev G : List ℕ
  G = firsts_of (same_owner owner) (length ps)

  below_cliques : clique_firsts (size a) bz bo (length L) L ≡ G
  unfolding clique_firsts
  below_cliques = ap₂ (λ (o : List ℕ) (k : ℕ). firsts_of (same_owner o) k) below_owners (sym below_width)

  below_clique : (c : ℕ) → clique_of (size a) bz bo (length L) L c ≡ index_in (same_owner owner) G c
  unfolding clique_of
  below_clique c = ap₂ (λ (o l : List ℕ). index_in (same_owner o) l c) below_owners below_cliques

  -- after the merge
  pub below_after : length (firsts n a b (merge n m a b g)) ≡ length (cliques_below input a b (size a) w zs os)
  unfolding cliques_below
  below_after = after-width n m a b g ha hb ∙ ap (λ (l : List ℕ). length l) (sym below_cliques)

  pub below_child : (q : ℕ) → q < candidate_count input a b (size a) w zs os
      → number_below input a b (size a) w zs os q ≡ number_in n a b (merge n m a b g) (firsts n a b (merge n m a b g)) (name q)
  unfolding number_below
  below_child q h =
      below_clique (index_in R L q) ∙ ap (index_in (same_owner owner) G) (sym (below_number q h)) ∙ sym (number-after n m a b g ha hb (name q) (names.into q h))

  -- sizes
  lead_below : (c : ℕ) → c < length L → get_or L c 0 < Q
  unfolding firsts_below
  lead_below c h = (numbered R (words_equivalence bz bo (size a)) Q).below c h

  clique_below : (c : ℕ) → c < length ps → index_in (same_owner owner) G c < length G
  clique_below c h = (numbered (same_owner owner) (owner_equivalence owner) (length ps)).found c h

  cliques_few : length G ≤ length ps
  cliques_few = length-few (same_owner owner) (owner_equivalence owner) (length ps) G (numbered (same_owner owner) (owner_equivalence owner) (length ps))

  leads_few : length L ≤ Q
  unfolding firsts_below
  leads_few = length-few R (words_equivalence bz bo (size a)) Q L (numbered R (words_equivalence bz bo (size a)) Q)

  -- the planes
  module _ (narrow : length (firsts_below input a b (size a) w zs os) ≤ 512) (room : candidate_count input a b (size a) w zs os * size a ≤ 1024) (old : List ℕ) (len : length old ≡ 1024) where
    abbrev FS : List ℕ
    FS = sets (replicate 512 0) 0 L

    abbrev NS : List ℕ
    NS = puts (length L) (clique_of (size a) bz bo (length L) L) (replicate 512 0)

    first_at_lem : (c : ℕ) → c < length L → get_or FS c 0 ≡ get_or L c 0
    first_at_lem c h = laid 512 L c narrow h

    clique_at : (c : ℕ) → c < length ps → get_or NS c 0 ≡ index_in (same_owner owner) G c
    clique_at c h = let k : c < length L = omega (arith, below_width) in stored 512 (length L) (clique_of (size a) bz bo (length L) L) c narrow k ∙ below_clique c

    plane : (v : ℕ) → v < 2 → (from : List ℕ) → Plane a b Q (λ q k x. eqb (entry n a g (name q) k x) v) from
        → Plane a b (length (firsts n a b after)) (λ i k x. eqb (entry n a after (get_or (firsts n a b after) i 0) k x) v)
        (added_columns (size a) FS NS from (length L) (puts 1024 (λ i. 0) old))
    plane v hv from p =
        product_plane n m a b g ha hb v hv NS (added_columns (size a) FS NS from (length L) (puts 1024 (λ i. 0) old)) clique_at
        (plane_ext a b (length G) (λ i k x. any (length L) (λ c. eqb (get_or NS c 0) i && eqb (entry n a g (name (get_or FS c 0)) k x) v))
        (λ i k x. any (length ps) (λ c. eqb (get_or NS c 0) i && eqb (entry n a g (get_or ps c 0) k x) v))
        (added_columns (size a) FS NS from (length L) (puts 1024 (λ i. 0) old))
        (λ i k x hi hk hx.
        ap (λ (u : ℕ). any u (λ c. eqb (get_or NS c 0) i && eqb (entry n a g (name (get_or FS c 0)) k x) v)) (sym below_width)
        ∙ any_ext (λ c. eqb (get_or NS c 0) i && eqb (entry n a g (name (get_or FS c 0)) k x) v) (λ c. eqb (get_or NS c 0) i && eqb (entry n a g (get_or ps c 0) k x) v) (length ps)
        (λ c hc.
        let kc : c < length L = omega (arith, below_width) in
        ap (λ (p : ℕ). eqb (get_or NS c 0) i && eqb (entry n a g p k x) v) (ap name (first_at_lem c kc) ∙ sym (below_first c kc))))
        (added_plane a b (length L) (length G) Q (λ q k x. eqb (entry n a g (name q) k x) v) FS NS from old p
        (λ c hc. rw (first_at_lem c hc) (lead_below c hc))
        (λ c hc. let kc : c < length ps = omega (arith, below_width) in rw (clique_at c kc) (clique_below c kc))
        fits len))
      where
        fits : length G * size a ≤ 1024
        fits = omega (arith, room, mul-le-mul_right {m = length G} {n = Q} (size a) (omega (arith, cliques_few, leads_few, below_width)))

    pub below_zeros : Plane a b (length (firsts n a b (merge n m a b g))) (λ i k x. eqb (entry n a (merge n m a b g) (get_or (firsts n a b (merge n m a b g)) i 0) k x) 0)
        (product_below input a b (size a) w zs os zs old)
    unfolding product_below
    below_zeros = plane 0 (omega arith) bz zeros

    pub below_ones : Plane a b (length (firsts n a b (merge n m a b g))) (λ i k x. eqb (entry n a (merge n m a b g) (get_or (firsts n a b (merge n m a b g)) i 0) k x) 1)
        (product_below input a b (size a) w zs os os old)
    unfolding product_below
    below_ones = plane 1 (omega arith) bo ones
