-- One height further down, by names: where Q names stand for the prefixes of a height, and two planes of packed words hold the columns of
-- the names, the numbering of the packed columns is that of the columns, their links are the graph's edges, and the cliques numbered by
-- their first columns are the columns after the merge.
-- Assumes nothing.
use mathlib.Core.Path.{◌≡◌, refl, sym, ◌∙◌, ap, ap₂}
use mathlib.Core.Bool.{Bool, true, false, not, ◌&&◌}
use mathlib.Core.List.{List}
use Prim.Native.Nat.{ℕ, ◌+◌, ◌-◌, ◌*◌, ◌^◌, ◌<◌, ◌≤◌}
use native.Mathlib.Nat.{le_refl}
use native.Mathlib.Omega.{arith}
use borrow.Author.Tests.{eq-eqb, eqb-true, ne_eqb}
use lib.Dec.{eqb}
use lib.ListN.{length, get_or}
use Rattle.laws.specs.Lists.{tab, rect}
use Rattle.laws.specs.Bits.{flag}
use Rattle.laws.proofs.Bits.{flag_is}
use Rattle.laws.proofs.Cases.{by_equal, and_split, and_join, same_test}
use Rattle.laws.proofs.Tests.{every_of, every_at}
use Rattle.laws.proofs.Lists.{length-tab, get_or-tab, get_or-rect}
use Rattle.reduction_spec.specs.Numbering.{index_in, firsts_of}
use Rattle.reduction_spec.specs.Columns.{entry, same, number_in, firsts}
use Rattle.reduction_spec.specs.Compatible.{compatible}
use Rattle.reduction_spec.specs.Cover.{is_in, cover}
use Rattle.reduction_spec.specs.Merge.{graph, merge}
use Rattle.reduction.specs.Packed.{size}
use Rattle.reduction.specs.Distinct.{same_words, agree_words, linked_words, same_owner}
use Rattle.reduction_spec.proofs.Numbering.{Equivalence, numbered, firsts_of_ext, index_ext, named_equivalence, named_index, named_firsts}
use Rattle.reduction_spec.proofs.ColumnNumbers.{same-entry, entry-same, same_equivalence, first_below, firsts_rise, number_below_lem, number_same, number-first, number_in_equal}
use Rattle.reduction_spec.proofs.CompatiblePlaces.{compatible-entry, entry-compatible}
use Rattle.reduction_spec.proofs.SameLinksSameCover.{cover-alike}
use Rattle.reduction_spec.proofs.CoverPartition.{cover-clique, cover_maximal}
use Rattle.reduction_spec.proofs.OneMerge.{graph_is, graph_sym, merge_joins, merge_parts}
use Rattle.reduction_spec.proofs.MergeKeeps.{same_kept, incompatible_differ}
use Rattle.reduction.proofs.packed.Planes.{Plane, same-words, words_same, agree_words_lem, words_agree}
use Rattle.reduction_spec.proofs.ColumnsBelow.{Names, first-least}

-- equal packed columns; columns of one clique
pub words_equivalence : (zs os : List ℕ) (s : ℕ) → Equivalence (same_words zs os s)
unfolding same_words
words_equivalence zs os s =
    record {
      self = λ p. every_of (alike p p) s (λ i h. and_join (eq-eqb (get_or zs (p * s + i) 0) (get_or zs (p * s + i) 0) refl) (eq-eqb (get_or os (p * s + i) 0) (get_or os (p * s + i) 0) refl));
      back = λ p q e. every_of (alike q p) s (λ i h. let (x, y) = at p q i (every_at (alike p q) s e i h) in of q p i (sym x) (sym y));
      on = λ p q r e f.
          every_of (alike p r) s (λ i h.
          let (x, y) = at p q i (every_at (alike p q) s e i h) in
          let (u, v) = at q r i (every_at (alike q r) s f i h) in
          of p r i (x ∙ u) (y ∙ v));
    }
  where
    alike : ℕ → ℕ → ℕ → Bool
    alike p q i = eqb (get_or zs (p * s + i) 0) (get_or zs (q * s + i) 0) && eqb (get_or os (p * s + i) 0) (get_or os (q * s + i) 0)

    at : (p q i : ℕ) → alike p q i ≡ true → (get_or zs (p * s + i) 0 ≡ get_or zs (q * s + i) 0) × (get_or os (p * s + i) 0 ≡ get_or os (q * s + i) 0)
    at p q i e =
        let (x, y) = and_split (eqb (get_or zs (p * s + i) 0) (get_or zs (q * s + i) 0)) (eqb (get_or os (p * s + i) 0) (get_or os (q * s + i) 0)) e in
        (eqb-true (get_or zs (p * s + i) 0) (get_or zs (q * s + i) 0) x, eqb-true (get_or os (p * s + i) 0) (get_or os (q * s + i) 0) y)

    of : (p q i : ℕ) → get_or zs (p * s + i) 0 ≡ get_or zs (q * s + i) 0 → get_or os (p * s + i) 0 ≡ get_or os (q * s + i) 0 → alike p q i ≡ true
    of p q i x y =
        and_join (eq-eqb (get_or zs (p * s + i) 0) (get_or zs (q * s + i) 0) x) (eq-eqb (get_or os (p * s + i) 0) (get_or os (q * s + i) 0) y)

pub owner_equivalence : (owner : List ℕ) → Equivalence (same_owner owner)
unfolding same_owner
owner_equivalence owner =
    record {
      self = λ p. eq-eqb (get_or owner p 0) (get_or owner p 0) refl;
      back = λ p q e. eq-eqb (get_or owner q 0) (get_or owner p 0) (sym (eqb-true (get_or owner p 0) (get_or owner q 0) e));
      on = λ p q r e f. eq-eqb (get_or owner p 0) (get_or owner r 0) (eqb-true (get_or owner p 0) (get_or owner q 0) e ∙ eqb-true (get_or owner q 0) (get_or owner r 0) f);
    }

and_twice : (x y : Bool) → (x && (x && y)) ≡ (x && y)
and_twice true y = refl
and_twice false y = refl

-- the columns of a table g by the names of their prefixes
module _ (n a b : ℕ) (g : List ℕ) (few : b ≤ 8) (small : (i : ℕ) → get_or g i 0 < 3) (Q : ℕ) (name : ℕ → ℕ) (names : Names n a b g Q name)
    (zs os : List ℕ) (zeros : Plane a b Q (λ q k x. eqb (entry n a g (name q) k x) 0) zs)
    (ones : Plane a b Q (λ q k x. eqb (entry n a g (name q) k x) 1) os) where
  abbrev ps : List ℕ
  ps = firsts n a b g

  abbrev R : ℕ → ℕ → Bool
  R = same_words zs os (size a)

  abbrev N : ℕ → ℕ → Bool
  N q r = same n a b g (name q) (name r)

  abbrev value : ℕ → ℕ → ℕ → ℕ
  value q k x = entry n a g (name q) k x

  value-small : (q k x : ℕ) → value q k x < 3
  value-small q k x = small (k * 2 ^ n + (name q * 2 ^ a + x))

  same_is : (q r : ℕ) → q < Q → r < Q → N q r ≡ R q r
  same_is q r hq hr =
      same_test (N q r) (R q r)
      (λ e. same-words a b Q few value value-small zs os zeros ones q r hq hr (same-entry n a b g (name q) (name r) e))
      (λ e. entry-same n a b g (name q) (name r) (words_same a b Q few value value-small zs os zeros ones q r hq hr e))

  agree_is : (q r : ℕ) → q < Q → r < Q → agree_words zs os (size a) q r ≡ compatible n a b g (name q) (name r)
  agree_is q r hq hr =
      same_test (agree_words zs os (size a) q r) (compatible n a b g (name q) (name r))
      (λ e. entry-compatible n a b g (name q) (name r) (words_agree a b Q few value value-small zs os zeros ones q r hq hr e))
      (λ e. agree_words_lem a b Q few value value-small zs os zeros ones q r hq hr (compatible-entry n a b g (name q) (name r) e))

  named : Equivalence N
  named = named_equivalence (same n a b g) (same_equivalence n a b g) (2 ^ (n - a)) Q name names.rise names.into names.onto

  lead_is : firsts_of N Q ≡ firsts_of R Q
  lead_is = firsts_of_ext N R Q same_is named

  pub firsts_named : firsts n a b g ≡ tab (length (firsts_of (same_words zs os (size a)) Q)) (λ c. name (get_or (firsts_of (same_words zs os (size a)) Q) c 0))
  unfolding firsts
  firsts_named =
      named_firsts (same n a b g) (same_equivalence n a b g) (2 ^ (n - a)) Q name names.rise names.into names.onto
      ∙ ap (λ (l : List ℕ). tab (length l) (λ c. name (get_or l c 0))) lead_is

  pub width_named : length (firsts n a b g) ≡ length (firsts_of (same_words zs os (size a)) Q)
  width_named =
      ap (λ (l : List ℕ). length l) firsts_named ∙ length-tab (λ c. name (get_or (firsts_of R Q) c 0)) (length (firsts_of R Q))

  pub first_named : (c : ℕ) → c < length (firsts_of (same_words zs os (size a)) Q) → get_or (firsts n a b g) c 0 ≡ name (get_or (firsts_of (same_words zs os (size a)) Q) c 0)
  first_named c h =
      ap (λ (l : List ℕ). get_or l c 0) firsts_named ∙ get_or-tab (λ c. name (get_or (firsts_of R Q) c 0)) 0 (length (firsts_of R Q)) c h

  pub number_named : (q : ℕ) → q < Q → number_in n a b g (firsts n a b g) (name q) ≡ index_in (same_words zs os (size a)) (firsts_of (same_words zs os (size a)) Q) q
  unfolding number_in firsts
  number_named q h =
      ap (λ (l : List ℕ). index_in (same n a b g) l (name q))
      (named_firsts (same n a b g) (same_equivalence n a b g) (2 ^ (n - a)) Q name names.rise names.into names.onto)
      ∙ named_index (same n a b g) (same_equivalence n a b g) (2 ^ (n - a)) Q name names.rise names.into names.onto q
      ∙ index_ext N R Q same_is named q h

  abbrev L : List ℕ
  L = firsts_of R Q

  lead_below : (c : ℕ) → c < length L → get_or L c 0 < Q
  lead_below c h = (numbered R (words_equivalence zs os (size a)) Q).below c h

  -- the flags of linked columns
  abbrev links : ℕ → List ℕ
  links w = rect w w (λ c d. flag (linked_words zs os (size a) L c d))

  linked_is : (c d : ℕ) → c < length ps → d < length ps → linked_words zs os (size a) L c d ≡ (not (eqb c d) && is_in (graph n a b g ps) (c * length ps + d))
  unfolding linked_words
  linked_is c d hc hd =
      let kc : c < length L = omega (arith, width_named) in
      let kd : d < length L = omega (arith, width_named) in
      ap (λ (x : Bool). not (eqb c d) && x)
      (agree_is (get_or L c 0) (get_or L d 0) (lead_below c kc) (lead_below d kd)
      ∙ ap₂ (λ (p q : ℕ). compatible n a b g p q) (sym (first_named c kc)) (sym (first_named d kd))
      ∙ sym (graph_is n a b g c d hc hd))

  link_at : (w c d : ℕ) → c < w → d < w → is_in (links w) (c * w + d) ≡ linked_words zs os (size a) L c d
  link_at w c d hc hd =
      ap (λ (v : ℕ). eqb v 1) (get_or-rect w (λ c d. flag (linked_words zs os (size a) L c d)) 0 w c d hc hd) ∙ flag_is (linked_words zs os (size a) L c d)

  pub cover_named : cover (length L) (rect (length L) (length L) (λ c d. flag (linked_words zs os (size a) L c d))) ≡ cover (length ps) (graph n a b g ps)
  cover_named =
      ap (λ (w : ℕ). cover w (links w)) (sym width_named)
      ∙ cover-alike (length ps) (links (length ps)) (graph n a b g ps) (λ c d hc hd.
      ap (λ (x : Bool). not (eqb c d) && x) (link_at (length ps) c d hc hd ∙ linked_is c d hc hd)
      ∙ and_twice (not (eqb c d)) (is_in (graph n a b g ps) (c * length ps + d)))

-- the table after the merge, by the cliques' first columns
module _ (n m a b : ℕ) (g : List ℕ) (ha : a ≤ n) (hb : b ≤ m) where
  abbrev qs : List ℕ
  qs = firsts n a b g

  abbrev owner : List ℕ
  owner = cover (length qs) (graph n a b g qs)

  abbrev after : List ℕ
  after = merge n m a b g

  abbrev number : ℕ → ℕ
  number p = number_in n a b g qs p

  pub same_after : (p q : ℕ) → p < 2 ^ (n - a) → q < 2 ^ (n - a)
      → same n a b (merge n m a b g) p q ≡ eqb (get_or owner (number_in n a b g (firsts n a b g) p) 0) (get_or owner (number_in n a b g (firsts n a b g) q) 0)
  same_after p q hp hq =
      by_equal (get_or owner (number p) 0) (get_or owner (number q) 0)
      (λ e. merge_joins n a b g m ha hb p q hp hq e ∙ sym (eq-eqb (get_or owner (number p) 0) (get_or owner (number q) 0) e))
      (λ e.
      incompatible_differ n a b after p q
      (merge_parts n a b g (cover-clique (length qs) (graph n a b g qs) (graph_sym n a b g)) m ha hb
      (cover_maximal (length qs) (graph n a b g qs) (graph_sym n a b g)) p q hp hq e)
      ∙ sym (ne_eqb (get_or owner (number p) 0) (get_or owner (number q) 0) e))

  -- the columns before name those after
  pub after_names : Names n a b (merge n m a b g) (length (firsts n a b g)) (λ c. get_or (firsts n a b g) c 0)
  after_names =
      record {
        rise = firsts_rise n a b g;
        into = first_below n a b g;
        onto = λ p h.
            let hc = number_below_lem n a b g p h in (
              number p,
              hc,
              first-least n a b g p h,
              same_kept n m a b a b g (le_refl a) ha (le_refl b) hb p (get_or qs (number p) 0) h (first_below n a b g (number p) hc) (number_same n a b g p h),
            );
      }

  abbrev A : ℕ → ℕ → Bool
  A c d = same n a b after (get_or qs c 0) (get_or qs d 0)

  after_is : (c d : ℕ) → c < length qs → d < length qs → A c d ≡ same_owner owner c d
  unfolding same_owner
  after_is c d hc hd =
      same_after (get_or qs c 0) (get_or qs d 0) (first_below n a b g c hc) (first_below n a b g d hd)
      ∙ ap₂ (λ (x y : ℕ). eqb (get_or owner x 0) (get_or owner y 0)) (number-first n a b g c hc) (number-first n a b g d hd)

  after_equivalence : Equivalence A
  after_equivalence =
      named_equivalence (same n a b after) (same_equivalence n a b after) (2 ^ (n - a)) (length qs) (λ c. get_or qs c 0)
      after_names.rise after_names.into after_names.onto

  pub firsts_after : firsts n a b (merge n m a b g)
      ≡ tab (length (firsts_of (same_owner owner) (length qs))) (λ i. get_or qs (get_or (firsts_of (same_owner owner) (length qs)) i 0) 0)
  unfolding firsts
  firsts_after =
      named_firsts (same n a b after) (same_equivalence n a b after) (2 ^ (n - a)) (length qs) (λ c. get_or qs c 0)
      after_names.rise after_names.into after_names.onto
      ∙ ap (λ (l : List ℕ). tab (length l) (λ i. get_or qs (get_or l i 0) 0)) (firsts_of_ext A (same_owner owner) (length qs) after_is after_equivalence)

  -- the number of a first column's prefix, and of any prefix
  first-number : (c : ℕ) → c < length qs
      → number_in n a b after (firsts n a b after) (get_or qs c 0) ≡ index_in (same_owner owner) (firsts_of (same_owner owner) (length qs)) c
  unfolding number_in firsts
  first-number c h =
      ap (λ (l : List ℕ). index_in (same n a b after) l (get_or qs c 0))
      (named_firsts (same n a b after) (same_equivalence n a b after) (2 ^ (n - a)) (length qs) (λ c. get_or qs c 0)
      after_names.rise after_names.into after_names.onto)
      ∙ named_index (same n a b after) (same_equivalence n a b after) (2 ^ (n - a)) (length qs) (λ c. get_or qs c 0)
      after_names.rise after_names.into after_names.onto c
      ∙ index_ext A (same_owner owner) (length qs) after_is after_equivalence c h

  pub number-after : (p : ℕ) → p < 2 ^ (n - a)
      → number_in n a b (merge n m a b g) (firsts n a b (merge n m a b g)) p
      ≡ index_in (same_owner owner) (firsts_of (same_owner owner) (length qs)) (number_in n a b g (firsts n a b g) p)
  number-after p h =
      let hc = number_below_lem n a b g p h in
      number_in_equal n a b after (firsts n a b after) p (get_or qs (number p) 0)
      (same_kept n m a b a b g (le_refl a) ha (le_refl b) hb p (get_or qs (number p) 0) h (first_below n a b g (number p) hc) (number_same n a b g p h))
      ∙ first-number (number p) hc
