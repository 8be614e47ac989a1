-- Numbering by smallest member: for an equivalence, each number below p is related to the one that its index names, and these are the
-- smallest ones of their classes, in rising order.
-- Assumes nothing.
use mathlib.Core.Path.{◌≡◌, refl, sym, ◌∙◌, ap}
use mathlib.Core.Bool.{Bool, true, false, cond, false≢true}
use mathlib.Core.List.{List, [], ◌∷◌, ◌++◌}
use Prim.Native.Nat.{ℕ, zero, suc, ◌+◌, ◌-◌, ◌<◌, ◌≤◌}
use native.Mathlib.Nat.{not-suc-le-zero}
use native.Mathlib.Omega.{arith}
use borrow.Author.Tests.{ltb-true, ltb-false}
use lib.Dec.{ltb}
use lib.ListN.{length, get_or, length-append, get_or-append}
use lib.Seq.{get_or_at}
use Rattle.laws.proofs.Cases.{by_test, by_less, last_or_below, cond_yes, cond_no, no_test, same_test}
use Rattle.laws.specs.Tests.{least}
use Rattle.laws.specs.Lists.{tab}
use Rattle.laws.proofs.Lists.{tab_ext, tab_of, length-tab, get_or-tab}
use Rattle.laws.proofs.Find.{find_ext, least-le, least-hit, least_of_lem}
use Rattle.reduction_spec.specs.Numbering.{index_in, firsts_of}

-- an equivalence
pub record Equivalence (R : ℕ → ℕ → Bool) : Type 0 where
  pub self : (p : ℕ) → R p p ≡ true
  pub back : (p q : ℕ) → R p q ≡ true → R q p ≡ true
  pub on : (p q r : ℕ) → R p q ≡ true → R q r ≡ true → R p r ≡ true

-- ps are the smallest members of the classes of the numbers below p, in rising order
pub record Numbered (R : ℕ → ℕ → Bool) (p : ℕ) (ps : List ℕ) : Type 0 where
  pub below : (c : ℕ) → c < length ps → get_or ps c 0 < p
  pub rise : (c d : ℕ) → c < d → d < length ps → get_or ps c 0 < get_or ps d 0
  pub found : (q : ℕ) → q < p → index_in R ps q < length ps
  pub smallest : (c q : ℕ) → c < length ps → q < get_or ps c 0 → R q (get_or ps c 0) ≡ false

pub index_most : (R : ℕ → ℕ → Bool) (ps : List ℕ) (p : ℕ) → index_in R ps p ≤ length ps
unfolding index_in
index_most R ps p = least-le (λ c. R p (get_or ps c 0)) (length ps)

module _ (R : ℕ → ℕ → Bool) (equivalence : Equivalence R) where
  -- an index below the length names a related number, and it is the least that does
  pub index_same : (ps : List ℕ) (p : ℕ) → index_in R ps p < length ps → R p (get_or ps (index_in R ps p) 0) ≡ true
  unfolding index_in
  index_same ps p h = least-hit (λ c. R p (get_or ps c 0)) (length ps) h

  pub index_of : (ps : List ℕ) (p c : ℕ) → c < length ps → R p (get_or ps c 0) ≡ true → index_in R ps p ≤ c
  unfolding index_in
  index_of ps p c h e = least_of_lem (λ c. R p (get_or ps c 0)) (length ps) c h e

  -- related numbers have the same index in any list
  pub index_equal : (ps : List ℕ) (p q : ℕ) → R p q ≡ true → index_in R ps p ≡ index_in R ps q
  unfolding index_in
  index_equal ps p q e =
      find_ext (λ c. R p (get_or ps c 0)) (λ c. R q (get_or ps c 0)) (length ps) 0
      (λ c l h.
      let r = get_or ps c 0 in
      same_test (R p r) (R q r) (equivalence.on q p r (equivalence.back p q e)) (equivalence.on p q r e))

  -- p after the numbers below it: its class is there already, or it is the smallest of its class
  module _ (p : ℕ) (ps : List ℕ) (i : Numbered R p ps) where
    numbered_old : index_in R ps p < length ps → Numbered R (suc p) ps
    numbered_old h =
        record {
          below = λ c l. let k = i.below c l in omega arith;
          rise = i.rise;
          found = λ q l. last_or_below q p l (λ e. rw e h) (i.found q);
          smallest = i.smallest;
        }

    abbrev more : List ℕ
    more = ps ++ (p ∷ [])

    more_length : length more ≡ length ps + 1
    more_length = length-append ps (p ∷ [])

    more_old : (c : ℕ) → c < length ps → get_or more c 0 ≡ get_or ps c 0
    more_old c h = get_or-append ps (p ∷ []) 0 c h

    more_last : get_or more (length ps) 0 ≡ p
    more_last = get_or_at ps p [] 0 (length ps) refl

    -- what holds of the old elements and of the last one
    more_each : (P : ℕ → ℕ → Type 0) → ((c : ℕ) → c < length ps → P c (get_or ps c 0)) → P (length ps) p → (c : ℕ) → c < length more
        → P c (get_or more c 0)
    more_each P h k c l =
        last_or_below c (length ps) (omega (arith, more_length))
        (λ e. rw e (rw more_last k)) (λ l. rw (more_old c l) (h c l))

    numbered_new : length ps ≤ index_in R ps p → Numbered R (suc p) more
    numbered_new h =
        record {
          below = more_each (λ c r. r < suc p) (λ c l. let k = i.below c l in omega arith) (omega arith);
          rise = λ c d l h.
              more_each (λ d r. c < d → get_or more c 0 < r) (λ d k l. rw (more_old c (omega arith)) (i.rise c d l k))
              (λ l. rw (more_old c l) (i.below c l)) d h l;
          found = λ q l. last_or_below q p l (λ e. rw e at_last) (at_old q);
          smallest = λ c q l.
              more_each (λ c r. q < r → R q r ≡ false) (λ c k. i.smallest c q k) (fresh q) c l;
        }
      where
        fresh : (q : ℕ) → q < p → R q p ≡ false
        fresh q l = no_test (R q p) (λ e.
            let k = i.found q l in
            omega (arith, index_equal ps q p e))

        at_last : index_in R more p < length more
        at_last = omega (arith, more_length, index_of more p (length ps) (omega (arith, more_length)) (rw more_last (equivalence.self p)))

        at_old : (q : ℕ) → q < p → index_in R more q < length more
        at_old q l =
            let k = i.found q l in
            let c = index_in R ps q in
            omega (arith, more_length, index_of more q c (omega (arith, more_length)) (rw (more_old c k) (index_same ps q k)))

  pub numbered : (p : ℕ) → Numbered R p (firsts_of R p)
  unfolding firsts_of
  numbered zero =
      record {
        below = λ c h. absurd (not-suc-le-zero h);
        rise = λ c d l h. absurd (not-suc-le-zero h);
        found = λ q h. absurd (not-suc-le-zero h);
        smallest = λ c q h. absurd (not-suc-le-zero h);
      }
  numbered (suc p) =
      let ps = firsts_of R p in
      let old = ltb (index_in R ps p) (length ps) in
      by_test old
      (λ e. rw (cond_yes old ps (ps ++ (p ∷ [])) e) (numbered_old p ps (numbered p) (ltb-true (index_in R ps p) (length ps) e)))
      (λ e. rw (cond_no old ps (ps ++ (p ∷ [])) e) (numbered_new p ps (numbered p) (ltb-false (index_in R ps p) (length ps) e)))

  -- any such list: the index of a smallest member is its place, and there are no more members than numbers
  module _ (P : ℕ) (ps : List ℕ) (i : Numbered R P ps) where
    pub index_first : (c : ℕ) → c < length ps → index_in R ps (get_or ps c 0) ≡ c
    index_first c h =
        let r = get_or ps c 0 in
        let d = index_in R ps r in
        let top : d ≤ c = index_of ps r c h (equivalence.self r) in
        by_less d c
        (λ l.
        let hit : R r (get_or ps d 0) ≡ true = index_same ps r (i.found r (i.below c h)) in
        let not-hit : R (get_or ps d 0) r ≡ false = i.smallest c (get_or ps d 0) h (i.rise d c l h) in
        absurd (false≢true (sym not-hit ∙ equivalence.back r (get_or ps d 0) hit)))
        (λ l. omega arith)

    -- rising numbers are at least their places
    place_from : (c : ℕ) → c < length ps → c ≤ get_or ps c 0
    place_from zero h = omega arith
    place_from (suc c) h =
        let k = place_from c (omega arith) in
        let l = i.rise c (suc c) (omega arith) h in
        omega arith

    pub length-few : length ps ≤ P
    length-few =
        by_less P (length ps)
        (λ l. let c = length ps - 1 in omega (arith, place_from c (omega arith), i.below c (omega arith)))
        (λ l. l)

  -- there is one such list
  module _ (P : ℕ) (ps qs : List ℕ) (i : Numbered R P ps) (k : Numbered R P qs) where
    -- a smallest member of one stands in the other
    other_place : (c : ℕ) → c < length ps → (index_in R qs (get_or ps c 0) < length qs) × (get_or qs (index_in R qs (get_or ps c 0)) 0 ≡ get_or ps c 0)
    other_place c h =
        let r = get_or ps c 0 in
        let d = index_in R qs r in
        let l = k.found r (i.below c h) in
        let hit : R r (get_or qs d 0) ≡ true = index_same qs r l in (
          l,
          by_less (get_or qs d 0) r
              (λ s. absurd (false≢true (sym (i.smallest c (get_or qs d 0) h s) ∙ equivalence.back r (get_or qs d 0) hit)))
              (λ s. by_less r (get_or qs d 0) (λ z. absurd (false≢true (sym (k.smallest d r l z) ∙ hit))) (λ z. omega arith)),
        )

    other_from : (c : ℕ) → c < length ps → c ≤ index_in R qs (get_or ps c 0)
    other_from zero h = omega arith
    other_from (suc c) h =
        let before = other_from c (omega arith) in
        let (l, e) = other_place (suc c) h in
        let (m, g) = other_place c (omega arith) in
        let up = i.rise c (suc c) (omega arith) h in
        by_less (index_in R qs (get_or ps c 0)) (index_in R qs (get_or ps (suc c) 0)) (λ z. omega arith)
        (λ z. by_less (index_in R qs (get_or ps (suc c) 0)) (index_in R qs (get_or ps c 0))
        (λ y. let x = k.rise (index_in R qs (get_or ps (suc c) 0)) (index_in R qs (get_or ps c 0)) y m in absurd (omega arith))
        (λ y.
        let x : get_or qs (index_in R qs (get_or ps (suc c) 0)) 0 ≡ get_or qs (index_in R qs (get_or ps c 0)) 0 = ap (λ (d : ℕ). get_or qs d 0) (omega arith) in
        absurd (omega arith)))

    -- the element at a place is not above the other's
    other-least : (c : ℕ) → c < length ps → (c < length qs) × (get_or qs c 0 ≤ get_or ps c 0)
    other-least c h =
        let (l, e) = other_place c h in
        let z = other_from c h in (
          omega arith,
          by_less c (index_in R qs (get_or ps c 0))
              (λ y. let x = k.rise c (index_in R qs (get_or ps c 0)) y l in omega arith)
              (λ y.
              let x : get_or qs c 0 ≡ get_or qs (index_in R qs (get_or ps c 0)) 0 = ap (λ (d : ℕ). get_or qs d 0) (omega arith) in
              omega arith),
        )

  module _ (P : ℕ) (ps qs : List ℕ) (i : Numbered R P ps) (k : Numbered R P qs) where
    not-longer : length ps ≤ length qs
    not-longer =
        by_less (length qs) (length ps)
        (λ l. let (x, y) = other-least P ps qs i k (length qs) l in absurd (omega arith))
        (λ l. l)

  pub numbered_one : (P : ℕ) (ps qs : List ℕ) → Numbered R P ps → Numbered R P qs → ps ≡ qs
  numbered_one P ps qs i k =
      let e : length ps ≡ length qs = omega (arith, not-longer P ps qs i k, not-longer P qs ps k i) in
      sym (tab_of 0 ps) ∙ ap (λ (w : ℕ). tab w (λ c. get_or ps c 0)) e
      ∙ tab_ext (λ c. get_or ps c 0) (λ c. get_or qs c 0) (length qs)
      (λ c h.
      let (x, y) = other-least P ps qs i k c (omega arith) in
      let (v, w) = other-least P qs ps k i c h in
      omega arith)
      ∙ tab_of 0 qs

  -- the index that a number gets as it comes up is the one it keeps
  index_later : (q p : ℕ) → q < p → index_in R (firsts_of R (suc p)) q ≡ index_in R (firsts_of R p) q
  unfolding firsts_of
  index_later q p l =
      let ps = firsts_of R p in
      let n = numbered p in
      let old = ltb (index_in R ps p) (length ps) in
      by_test old
      (λ e. ap (λ (s : List ℕ). index_in R s q) (cond_yes old ps (ps ++ (p ∷ [])) e))
      (λ e.
      let more = ps ++ (p ∷ []) in
      let c = index_in R ps q in
      let h = n.found q l in
      let len : length more ≡ length ps + 1 = length-append ps (p ∷ []) in
      let at : get_or more c 0 ≡ get_or ps c 0 = get_or-append ps (p ∷ []) 0 c h in
      ap (λ (s : List ℕ). index_in R s q) (cond_no old ps (ps ++ (p ∷ [])) e)
      ∙ index_equal more q (get_or more c 0) (rw at (index_same ps q h))
      ∙ index_first (suc p) more (numbered_new p ps n (ltb-false (index_in R ps p) (length ps) e)) c (omega (arith, len)))

  index_now : (q : ℕ) → index_in R (firsts_of R (suc q)) q ≡ index_in R (firsts_of R q) q
  unfolding firsts_of
  index_now q =
      let ps = firsts_of R q in
      let n = numbered q in
      let old = ltb (index_in R ps q) (length ps) in
      by_test old
      (λ e. ap (λ (s : List ℕ). index_in R s q) (cond_yes old ps (ps ++ (q ∷ [])) e))
      (λ e.
      let more = ps ++ (q ∷ []) in
      let len : length more ≡ length ps + 1 = length-append ps (q ∷ []) in
      let at : get_or more (length ps) 0 ≡ q = get_or_at ps q [] 0 (length ps) refl in
      let k = ltb-false (index_in R ps q) (length ps) e in
      let top : index_in R ps q ≤ length ps = index_most R ps q in
      ap (λ (s : List ℕ). index_in R s q) (cond_no old ps (ps ++ (q ∷ [])) e)
      ∙ ap (index_in R more) (sym at)
      ∙ index_first (suc q) more (numbered_new q ps n k) (length ps) (omega (arith, len))
      ∙ (let z : length ps ≡ index_in R ps q = omega arith in z))

  pub index_kept : (P q : ℕ) → q < P → index_in R (firsts_of R q) q ≡ index_in R (firsts_of R P) q
  index_kept zero q h = absurd (not-suc-le-zero h)
  index_kept (suc P) q h =
      last_or_below q P h (λ e. rw e (sym (index_now P))) (λ l. index_kept P q l ∙ sym (index_later q P l))

-- relations that agree on the numbers below P
module _ (R S : ℕ → ℕ → Bool) (P : ℕ) (agree : (p q : ℕ) → p < P → q < P → R p q ≡ S p q) (equivalence : Equivalence R) where
  index_other : (ps : List ℕ) → ((c : ℕ) → c < length ps → get_or ps c 0 < P) → (p : ℕ) → p < P → index_in R ps p ≡ index_in S ps p
  unfolding index_in
  index_other ps k p l =
      find_ext (λ c. R p (get_or ps c 0)) (λ c. S p (get_or ps c 0)) (length ps) 0 (λ c z m. agree p (get_or ps c 0) l (k c (omega arith)))

  firsts_of-other : (p : ℕ) → p ≤ P → firsts_of R p ≡ firsts_of S p
  unfolding firsts_of
  firsts_of-other zero l = refl
  firsts_of-other (suc p) l =
      let ps = firsts_of R p in
      let e : ps ≡ firsts_of S p = firsts_of-other p (omega arith) in
      let k : index_in R ps p ≡ index_in S ps p = index_other ps (λ c m. let z = (numbered R equivalence p).below c m in omega arith) p l in
      ap (λ (d : ℕ). cond (ltb d (length ps)) ps (ps ++ (p ∷ []))) k
      ∙ ap (λ (qs : List ℕ). cond (ltb (index_in S qs p) (length qs)) qs (qs ++ (p ∷ []))) e

  pub firsts_of_ext : firsts_of R P ≡ firsts_of S P
  firsts_of_ext = firsts_of-other P (omega arith)

  pub index_ext : (p : ℕ) → p < P → index_in R (firsts_of R P) p ≡ index_in S (firsts_of S P) p
  index_ext p l = index_other (firsts_of R P) (numbered R equivalence P).below p l ∙ ap (λ (ps : List ℕ). index_in S ps p) firsts_of_ext

-- Numbers named by a rising map: where each number below P is related to a named one that is not above it, the smallest members are those
-- of the names.
module _ (R : ℕ → ℕ → Bool) (equivalence : Equivalence R) (P Q : ℕ) (name : ℕ → ℕ) (rise : (c d : ℕ) → c < d → d < Q → name c < name d)
    (into : (q : ℕ) → q < Q → name q < P) (onto : (p : ℕ) → p < P → (q : ℕ) × (q < Q) × (name q ≤ p) × (R p (name q) ≡ true)) where
  abbrev pub Named : ℕ → ℕ → Bool
  Named q r = R (name q) (name r)

  pub named_equivalence : Equivalence Named
  named_equivalence =
      record {
        self = λ p. equivalence.self (name p);
        back = λ p q. equivalence.back (name p) (name q);
        on = λ p q r. equivalence.on (name p) (name q) (name r);
      }

  abbrev names : List ℕ
  names = firsts_of Named Q

  abbrev named : List ℕ
  named = tab (length names) (λ c. name (get_or names c 0))

  named_length : length named ≡ length names
  named_length = length-tab (λ c. name (get_or names c 0)) (length names)

  named_at : (c : ℕ) → c < length names → get_or named c 0 ≡ name (get_or names c 0)
  named_at c h = get_or-tab (λ c. name (get_or names c 0)) 0 (length names) c h

  -- the index of a name among the names is that of what it names
  pub named_index : (q : ℕ) → index_in R named (name q) ≡ index_in Named names q
  unfolding index_in
  named_index q =
      ap (λ (w : ℕ). least w (λ c. R (name q) (get_or named c 0))) named_length
      ∙ find_ext (λ c. R (name q) (get_or named c 0)) (λ c. R (name q) (name (get_or names c 0))) (length names) 0
      (λ c l h. ap (R (name q)) (named_at c (omega arith)))

  named_numbered : Numbered R P named
  named_numbered =
      let i = numbered Named named_equivalence Q in
      record {
        below = λ c h. let l : c < length names = omega (arith, named_length) in rw (named_at c l) (into (get_or names c 0) (i.below c l));
        rise = λ c d l h.
            let k : d < length names = omega (arith, named_length) in
            rw (named_at c (omega arith), named_at d k) (rise (get_or names c 0) (get_or names d 0) (i.rise c d l k) (i.below d k));
        found = λ p h.
            let (q, hq, le, r) = onto p h in
            let z = i.found q hq in
            omega (arith, named_length, index_equal R equivalence named p (name q) r, named_index q);
        smallest = λ c p h l.
            let k : c < length names = omega (arith, named_length) in
            small c k p (rw (named_at c k) at l);
      }
    where
      small : (c : ℕ) → c < length names → (p : ℕ) → p < name (get_or names c 0) → R p (get_or named c 0) ≡ false
      small c k p l =
          let i = numbered Named named_equivalence Q in
          let r = get_or names c 0 in
          let hr = i.below c k in
          let (q, hq, le, e) = onto p (omega (arith, into r hr)) in
          rw (named_at c k)
          (no_test (R p (name r)) (λ t.
          by_less q r
          (λ z. false≢true (sym (i.smallest c q k z) ∙ equivalence.on (name q) p (name r) (equivalence.back p (name q) e) t))
          (λ z. by_less r q
          (λ y. let x = rise r q y hq in omega arith)
          (λ y. let x : name q ≡ name r = ap name (omega arith) in omega arith))))

  pub named_firsts : firsts_of R P ≡ tab (length (firsts_of Named Q)) (λ c. name (get_or (firsts_of Named Q) c 0))
  named_firsts = numbered_one R equivalence P (firsts_of R P) named (numbered R equivalence P) named_numbered
