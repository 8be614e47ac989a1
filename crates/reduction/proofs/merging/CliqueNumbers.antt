-- Cliques numbered by their first columns, as a table of marks finds them, and the plane of their products.
-- Assumes nothing.
use mathlib.Core.Path.{◌≡◌, refl, sym, ◌∙◌, ap, ap₂}
use mathlib.Core.Bool.{Bool, false, cond}
use mathlib.Core.List.{List, [], ◌∷◌, ◌++◌}
use Prim.Native.Nat.{ℕ, ◌+◌, ◌-◌, ◌*◌, ◌<◌, ◌≤◌}
use native.Mathlib.Numerals.{add-one}
use native.Mathlib.Omega.{arith}
use borrow.Author.Tests.{lt-ltb, le-ltb, eq-eqb, ne_eqb, eqb-true}
use lib.Dec.{eqb, ltb}
use lib.Bits.{bit_or}
use lib.ListN.{length, get_or, set, replicate, length-set, length-append, length-replicate, get_or-replicate, get_or-append}
use lib.Seq.{get_or_at, get_or-set_same, get_or-set_other}
use Rattle.laws.specs.Tests.{least}
use Rattle.laws.specs.Lists.{puts_at}
use Rattle.laws.proofs.Cases.{by_less, by_equal, last_or_below, cond_yes, cond_no}
use Rattle.laws.proofs.Find.{least-le, least-hit, least_before, least_is}
use Rattle.reduction_spec.specs.Numbering.{index_in, firsts_of}
use Rattle.reduction.specs.Distinct.{same_owner}
use Rattle.reduction.specs.Packed.{added_columns}
use Rattle.reduction_spec.proofs.Numbering.{Equivalence, numbered, length-few}

-- one column more is added
pub added_next : (size : ℕ) (firsts nums from to s : List ℕ) (c g h : ℕ) → s ≡ added_columns size firsts nums from c to → g ≡ get_or nums c 0
    → h ≡ get_or firsts c 0
    → puts_at (g * size) size (λ i. bit_or (get_or s (g * size + i) 0) (get_or from (h * size + i) 0)) s ≡ added_columns size firsts nums from (c + 1) to
unfolding added_columns
added_next size firsts nums from to s c g h p q r = rw (p, q, r, add-one c) refl

pub added_none : (size : ℕ) (firsts nums from to : List ℕ) → added_columns size firsts nums from 0 to ≡ to
unfolding added_columns
added_none size firsts nums from to = refl

-- i as a mark: 1 more where it is below n, else 0
abbrev pub mark : ℕ → ℕ → ℕ
mark n i = cond (ltb i n) (i + 1) 0

mark_yes : (n i : ℕ) → i < n → mark n i ≡ i + 1
mark_yes n i h = cond_yes (ltb i n) (i + 1) 0 (lt-ltb i n h)

mark_no : (n i : ℕ) → n ≤ i → mark n i ≡ 0
mark_no n i h = cond_no (ltb i n) (i + 1) 0 (le-ltb i n h)

-- what a mark says
pub number_of_mark : (n i : ℕ) → i ≤ n → cond (eqb (mark n i) 0) n (mark n i - 1) ≡ i
number_of_mark n i h =
    by_less i n
    (λ l. rw (mark_yes n i l, ne_eqb (i + 1) 0 (λ e. absurd (omega arith))) (omega arith))
    (λ l. rw (mark_no n i l) (omega arith))

module _ (owner : List ℕ) where
  -- the number of the clique g among those whose first columns are ps
  unfoldable pub clique_in : List ℕ → ℕ → ℕ
  clique_in ps g = least (length ps) (λ d. eqb g (get_or owner (get_or ps d 0) 0))

  pub clique_index : (ps : List ℕ) (c : ℕ) → clique_in ps (get_or owner c 0) ≡ index_in (same_owner owner) ps c
  unfolding clique_in index_in same_owner
  clique_index ps c = refl

  clique_most : (ps : List ℕ) (g : ℕ) → clique_in ps g ≤ length ps
  unfolding clique_in
  clique_most ps g = least-le (λ d. eqb g (get_or owner (get_or ps d 0) 0)) (length ps)

  -- one clique more, whose first column is c
  module _ (ps : List ℕ) (c : ℕ) where
    abbrev more : List ℕ
    more = ps ++ (c ∷ [])

    more_length : length more ≡ length ps + 1
    more_length = length-append ps (c ∷ [])

    abbrev old : ℕ → ℕ → Bool
    old g d = eqb g (get_or owner (get_or ps d 0) 0)

    abbrev new : ℕ → ℕ → Bool
    new g d = eqb g (get_or owner (get_or more d 0) 0)

    new_old : (g d : ℕ) → d < length ps → new g d ≡ old g d
    new_old g d h = ap (λ (k : ℕ). eqb g (get_or owner k 0)) (get_or-append ps (c ∷ []) 0 d h)

    new_last : (g : ℕ) → new g (length ps) ≡ eqb g (get_or owner c 0)
    new_last g = ap (λ (k : ℕ). eqb g (get_or owner k 0)) (get_or_at ps c [] 0 (length ps) refl)

    more_before : (g i : ℕ) → i ≤ least (length ps) (old g) → (d : ℕ) → d < i → new g d ≡ false
    more_before g i l d h =
        let k = least-le (old g) (length ps) in
        new_old g d (omega arith) ∙ least_before (old g) (length ps) d (omega arith)

    -- a clique that is there keeps its number; the new one gets the next; any other is still not there
    more_there : (g : ℕ) → clique_in ps g < length ps → clique_in more g ≡ clique_in ps g
    unfolding clique_in
    more_there g h =
        least_is (new g) (length more) (least (length ps) (old g)) (omega (arith, more_length))
        (more_before g (least (length ps) (old g)) (omega arith))
        (λ z. new_old g (least (length ps) (old g)) h ∙ least-hit (old g) (length ps) h)

    more_this : (g : ℕ) → g ≡ get_or owner c 0 → length ps ≤ clique_in ps g → clique_in more g ≡ length ps
    unfolding clique_in
    more_this g e h =
        least_is (new g) (length more) (length ps) (omega (arith, more_length)) (more_before g (length ps) h)
        (λ z. new_last g ∙ eq-eqb g (get_or owner c 0) e)

    more_other : (g : ℕ) → (g ≡ get_or owner c 0 → ⊥) → length ps ≤ clique_in ps g → clique_in more g ≡ length more
    unfolding clique_in
    more_other g n h =
        least_is (new g) (length more) (length more) (omega arith)
        (λ d l.
        last_or_below d (length ps) (omega (arith, more_length))
        (λ e. ap (new g) e ∙ new_last g ∙ ne_eqb g (get_or owner c 0) n)
        (λ k. more_before g (length ps) h d k))
        (λ z. absurd (omega arith))

  -- seen holds the marks of the cliques whose first columns are ps
  abbrev pub Marks : List ℕ → List ℕ → Type 0
  Marks ps seen = (length seen ≡ 512) × ((g : ℕ) → g < 512 → get_or seen g 0 ≡ mark (length ps) (clique_in ps g))

  pub marks-none : Marks [] (replicate 512 0)
  marks-none =
      (length-replicate {A = ℕ} 512 0, λ g h. get_or-replicate 512 g 0 0 h ∙ sym (mark_no 0 (clique_in [] g) (omega arith)))

  -- the mark of one column's clique is stored
  module _ (c : ℕ) (seen : List ℕ) where
    abbrev ps : List ℕ
    ps = firsts_of (same_owner owner) c

    abbrev g : ℕ
    g = get_or owner c 0

    abbrev i : ℕ
    i = clique_in ps g

    abbrev next : List ℕ
    next = firsts_of (same_owner owner) (c + 1)

    next_old : i < length ps → next ≡ ps
    unfolding firsts_of
    next_old h =
        let k = index_in (same_owner owner) ps c in
        let e : i ≡ k = clique_index ps c in
        ap (firsts_of (same_owner owner)) (add-one c) ∙ cond_yes (ltb k (length ps)) ps (ps ++ (c ∷ [])) (lt-ltb k (length ps) (omega arith))

    next_new : length ps ≤ i → next ≡ ps ++ (c ∷ [])
    unfolding firsts_of
    next_new h =
        let k = index_in (same_owner owner) ps c in
        let e : i ≡ k = clique_index ps c in
        ap (firsts_of (same_owner owner)) (add-one c) ∙ cond_no (ltb k (length ps)) ps (ps ++ (c ∷ [])) (le-ltb k (length ps) (omega arith))

    pub marks-count : (s : ℕ) → s ≡ mark (length ps) i → cond (eqb s 0) (length ps + 1) (length ps) ≡ length next
    marks-count s e =
        by_less i (length ps)
        (λ l.
        let z : s ≡ i + 1 = e ∙ mark_yes (length ps) i l in
        cond_no (eqb s 0) (length ps + 1) (length ps) (ne_eqb s 0 (λ y. absurd (omega arith))) ∙ ap length (sym (next_old l)))
        (λ l.
        let z : s ≡ 0 = e ∙ mark_no (length ps) i l in
        cond_yes (eqb s 0) (length ps + 1) (length ps) (eq-eqb s 0 z) ∙ sym (more_length ps c) ∙ ap length (sym (next_new l)))

    pub marks-next : g < 512 → Marks ps seen → Marks next (set seen g (i + 1))
    marks-next b m = (
      length-set seen g (i + 1) ∙ m.0,
      λ x h.
          by_equal x g
          (λ e.
          let same : get_or (set seen g (i + 1)) x 0 ≡ i + 1 =
          ap (λ (k : ℕ). get_or (set seen g (i + 1)) k 0) e ∙ get_or-set_same seen g (i + 1) 0 (omega (arith, m.0)) in
          same
          ∙ by_less i (length ps)
          (λ l. rw (next_old l, e) (sym (mark_yes (length ps) i l)))
          (λ l.
          let t : clique_in (more ps c) g ≡ length ps = more_this ps c g refl l in
          let k : i ≡ length ps = omega (arith, clique_most ps g) in
          rw (next_new l, e, t) (ap (λ (y : ℕ). y + 1) k ∙ sym (mark_yes (length (more ps c)) (length ps) (omega (arith, more_length ps c))))))
          (λ n.
          get_or-set_other seen g x (i + 1) 0 n ∙ m.1 x h
          ∙ by_less i (length ps)
          (λ l. rw (next_old l) refl)
          (λ l.
          by_less (clique_in ps x) (length ps)
          (λ k.
          let t : clique_in (more ps c) x ≡ clique_in ps x = more_there ps c x k in
          rw (next_new l, t)
          (mark_yes (length ps) (clique_in ps x) k ∙ sym (mark_yes (length (more ps c)) (clique_in ps x) (omega (arith, more_length ps c)))))
          (λ k.
          let t : clique_in (more ps c) x ≡ length (more ps c) = more_other ps c x n k in
          rw (next_new l, t) (mark_no (length ps) (clique_in ps x) k ∙ sym (mark_no (length (more ps c)) (length (more ps c)) (omega arith)))))),
    )

  owner_equivalence : Equivalence (same_owner owner)
  unfolding same_owner
  owner_equivalence =
      record {
        self = λ p. eq-eqb (get_or owner p 0) (get_or owner p 0) refl;
        back = λ p q e. eq-eqb (get_or owner q 0) (get_or owner p 0) (sym (eqb-true (get_or owner p 0) (get_or owner q 0) e));
        on = λ p q r d e.
            eq-eqb (get_or owner p 0) (get_or owner r 0) (eqb-true (get_or owner p 0) (get_or owner q 0) d ∙ eqb-true (get_or owner q 0) (get_or owner r 0) e);
      }

  pub few : (c : ℕ) → length (firsts_of (same_owner owner) c) ≤ c
  few c = length-few (same_owner owner) owner_equivalence c (firsts_of (same_owner owner) c) (numbered (same_owner owner) owner_equivalence c)

  -- one column of the loop: its clique x, the clique's mark s, and its number
  module _ (c : ℕ) (seen : List ℕ) (marks : Marks (firsts_of (same_owner owner) c) seen) (x : ℕ) (e : x ≡ get_or owner c 0) (b : x < 512) where
    abbrev R : ℕ → ℕ → Bool
    R = same_owner owner

    mark_there : get_or seen x 0 ≡ mark (length (firsts_of R c)) (clique_in (firsts_of R c) (get_or owner c 0))
    mark_there = marks.1 x b ∙ ap (λ (y : ℕ). mark (length (firsts_of R c)) (clique_in (firsts_of R c) y)) e

    pub found : (n r : ℕ) → n ≡ length (firsts_of R c) → r ≡ cond (eqb (get_or seen x 0) 0) n (get_or seen x 0 - 1)
        → (r ≡ index_in R (firsts_of R c) c) × (r ≤ c)
    found n r p q =
        let i = clique_in (firsts_of R c) (get_or owner c 0) in
        let z : r ≡ i = q ∙ ap₂ (λ (s k : ℕ). cond (eqb s 0) k (s - 1)) mark_there p
        ∙ number_of_mark (length (firsts_of R c)) i (clique_most (firsts_of R c) (get_or owner c 0)) in
        (z ∙ clique_index (firsts_of R c) c, omega (arith, few c, clique_most (firsts_of R c) (get_or owner c 0)))

    pub found_count : (n : ℕ) → n ≡ length (firsts_of R c) → cond (eqb (get_or seen x 0) 0) (n + 1) n ≡ length (firsts_of R (c + 1))
    found_count n p =
        ap (λ (k : ℕ). cond (eqb (get_or seen x 0) 0) (k + 1) k) p ∙ marks-count c seen (get_or seen x 0) mark_there

    pub found_next : (v : ℕ) → v ≡ index_in R (firsts_of R c) c + 1 → Marks (firsts_of R (c + 1)) (set seen x v)
    found_next v q =
        let k : v ≡ clique_in (firsts_of R c) (get_or owner c 0) + 1 = q ∙ ap (λ (y : ℕ). y + 1) (sym (clique_index (firsts_of R c) c)) in
        let m = marks-next c seen (omega arith) marks in
        rw (e, k) m

  pub first_marks : Marks (firsts_of (same_owner owner) 0) (replicate 512 0)
  unfolding firsts_of
  first_marks = marks-none

  pub first_count : 0 ≡ length (firsts_of (same_owner owner) 0)
  unfolding firsts_of
  first_count = refl
