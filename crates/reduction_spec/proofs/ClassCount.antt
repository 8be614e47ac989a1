-- Classes counted by their least members, where a map takes the numbers that count to those of a numbered equivalence.
-- Assumes nothing.
use mathlib.Core.Path.{◌≡◌, sym, ◌∙◌, ap}
use mathlib.Core.Bool.{Bool, true, not, ◌&&◌}
use mathlib.Core.List.{List}
use Prim.Native.Nat.{ℕ, ◌<◌}
use native.Mathlib.Omega.{arith}
use borrow.Author.Tests.{eq-eqb, eqb-true, not-true}
use lib.Dec.{eqb}
use lib.ListN.{length, get_or}
use Rattle.laws.specs.Tests.{every, count, least}
use Rattle.laws.proofs.Cases.{by_less, and_split, and_join, no_test}
use Rattle.laws.proofs.Tests.{every_of, every_at}
use Rattle.laws.proofs.Find.{least-hit, least_before, least_of_lem}
use Rattle.laws.proofs.Picked.{count_named}
use Rattle.laws.proofs.Masks.{not-both}
use Rattle.reduction_spec.specs.Numbering.{index_in, firsts_of}
use Rattle.reduction_spec.proofs.Numbering.{Equivalence, numbered, index_same, index_equal, index_first}

-- S relates numbers below P, and R those below D of which some count: they are related as what `to` maps them to
module _ (S R : ℕ → ℕ → Bool) (equivalence : Equivalence S) (P D : ℕ) (counts : ℕ → Bool) (to : ℕ → ℕ) (into : (u : ℕ) → u < D → to u < P)
    (agree : (v u : ℕ) → v < D → u < D → counts u ≡ true → R v u ≡ (counts v && S (to v) (to u)))
    (onto : (p : ℕ) → p < P → (u : ℕ) × (u < D) × (counts u ≡ true) × (to u ≡ p)) where
  abbrev ps : List ℕ
  ps = firsts_of S P

  -- the number of u's class
  abbrev number : ℕ → ℕ
  number u = index_in S ps (to u)

  -- u is the least of its class
  abbrev first : ℕ → Bool
  first u = counts u && every u (λ v. not (R v u))

  related : (v u : ℕ) → v < D → u < D → counts v ≡ true → counts u ≡ true → number v ≡ number u → R v u ≡ true
  related v u hv hu cv cu e =
      let i = numbered S equivalence P in
      let r = get_or ps (number u) 0 in
      let left : S (to v) r ≡ true = rw e at (index_same S equivalence ps (to v) (i.found (to v) (into v hv))) in
      let right : S r (to u) ≡ true = equivalence.back (to u) r (index_same S equivalence ps (to u) (i.found (to u) (into u hu))) in
      agree v u hv hu cu ∙ and_join cv (equivalence.on (to v) r (to u) left right)

  not_later : (v u : ℕ) → v < D → u < D → first v ≡ true → first u ≡ true → number v ≡ number u → v < u → ⊥
  not_later v u hv hu fv fu e l =
      let (cv, lv) = and_split (counts v) (every v (λ w. not (R w v))) fv in
      let (cu, lu) = and_split (counts u) (every u (λ w. not (R w u))) fu in
      not-both (related v u hv hu cv cu e) (not-true (R v u) (every_at (λ w. not (R w u)) u lu v l))

  first_one : (v u : ℕ) → v < D → u < D → first v ≡ true → first u ≡ true → number v ≡ number u → v ≡ u
  first_one v u hv hu fv fu e =
      by_less v u (λ l. absurd (not_later v u hv hu fv fu e l))
      (λ l. by_less u v (λ k. absurd (not_later u v hu hv fu fv (sym e) k)) (λ k. omega arith))

  -- the least number of class c
  first_at_lem : (c : ℕ) → c < length ps → (u : ℕ) × (u < D) × (first u ≡ true) × (number u ≡ c)
  first_at_lem c h =
      let i = numbered S equivalence P in
      let (v, hv, cv, ev) = onto (get_or ps c 0) (i.below c h) in
      let nv : number v ≡ c = ap (index_in S ps) ev ∙ index_first S equivalence P ps i c h in
      let inClass : ℕ → Bool = λ u. counts u && eqb (number u) c in
      let u = least D inClass in
      let hu : u < D = omega (arith, least_of_lem inClass D v hv (and_join cv (eq-eqb (number v) c nv))) in
      let (cu, nu) = and_split (counts u) (eqb (number u) c) (least-hit inClass D hu) in
      let is : number u ≡ c = eqb-true (number u) c nu in
      let none : (w : ℕ) → w < u → not (R w u) ≡ true =
      λ w l.
      ap not
      (no_test (R w u) (λ t.
      let (cw, s) = and_split (counts w) (S (to w) (to u)) (sym (agree w u (omega arith) hu cu) ∙ t) in
      not-both (and_join cw (eq-eqb (number w) c (index_equal S equivalence ps (to w) (to u) s ∙ is))) (least_before inClass D w l))) in
      (u, hu, and_join cu (every_of (λ w. not (R w u)) u none), is)

  pub class_count : count D (λ u. counts u && every u (λ v. not (R v u))) ≡ length (firsts_of S P)
  class_count =
      count_named first number D (length ps) (λ u hu f. (numbered S equivalence P).found (to u) (into u hu)) first_one first_at_lem
