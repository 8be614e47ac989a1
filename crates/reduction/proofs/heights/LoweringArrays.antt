-- The steps of one height further down: sizes that the code needs, and that what its arrays hold is what `Lowering` says.
-- Assumes nothing.
use mathlib.Core.Path.{◌≡◌, ◌∙◌, ap, ap₂}
use mathlib.Core.Bool.{Bool}
use mathlib.Core.List.{List}
use Prim.Native.Nat.{ℕ, ◌+◌, ◌*◌, ◌<◌, ◌≤◌}
use native.Mathlib.Nat.{mul-le-mul_right}
use native.Mathlib.Omega.{arith}
use lib.ListN.{length, get_or, replicate}
use lib.Seq.{sets}
use Rattle.laws.specs.Lists.{puts}
use Rattle.laws.proofs.Cases.{by_test}
use Rattle.laws.proofs.Lists.{row_end}
use Rattle.laws.proofs.Filled.{laid}
use Rattle.laws.proofs.Puts.{stored, puts_ext}
use Rattle.reduction_spec.specs.Numbering.{index_in, firsts_of}
use Rattle.reduction.specs.Packed.{added_columns}
use Rattle.reduction.specs.Distinct.{same_words, same_owner}
use Rattle.std.specs.Prelude.{Result, Ok, Err}
use Rattle.refusals.specs.declared.Refusal.{Refusal}
use Rattle.reduction.proofs.Narrow.{few-before, answer-is, many-before, refused-wide, narrow_yes, narrow_no}
use Rattle.reduction.specs.Lowering.{narrow_or, owners, clique_firsts, clique_of, candidate_count, plane_below, firsts_below, cliques_below, number_below, product_below}
use Rattle.reduction_spec.proofs.Numbering.{numbered, index_kept, length-few}
use Rattle.reduction.proofs.heights.ColumnsByName.{words_equivalence, owner_equivalence}
use Rattle.reduction.proofs.heights.CliquesFound.{clique_firsts_named, clique_of_named}

module _ (input : Bool) (a b size w : ℕ) (zs os : List ℕ) (few : w ≤ 512) (room : w * 2 * size ≤ 1024) where
  abbrev Q : ℕ
  Q = candidate_count input a b size w zs os

  abbrev bz : List ℕ
  bz = plane_below input a b size w zs os zs

  abbrev bo : List ℕ
  bo = plane_below input a b size w zs os os

  abbrev L : List ℕ
  L = firsts_below input a b size w zs os

  abbrev R : ℕ → ℕ → Bool
  R = same_words bz bo size

  count_most : candidate_count input a b size w zs os ≤ w * 2
  unfolding candidate_count
  count_most =
      by_test input (λ e. rw e (omega arith)) (λ e. rw e (omega arith))

  pub cands_few : candidate_count input a b size w zs os ≤ 1024
  cands_few = omega (arith, count_most)

  pub cands_room : candidate_count input a b size w zs os * size ≤ 1024
  cands_room = omega (arith, mul-le-mul_right {m = Q} {n = w * 2} size count_most)

  leads_few : length L ≤ Q
  unfolding firsts_below
  leads_few = length-few R (words_equivalence bz bo size) Q L (numbered R (words_equivalence bz bo size) Q)

  lead_below : (c : ℕ) → c < length L → get_or L c 0 < Q
  unfolding firsts_below
  lead_below c h = (numbered R (words_equivalence bz bo size) Q).below c h

  number_below_lem : (q : ℕ) → q < Q → index_in R L q < length L
  unfolding firsts_below
  number_below_lem q h = (numbered R (words_equivalence bz bo size) Q).found q h

  clique_below : (c : ℕ) → c < length L → clique_of size bz bo (length L) L c < length (clique_firsts size bz bo (length L) L)
  unfolding clique_of clique_firsts
  clique_below c h =
      let o = owners size bz bo (length L) L in
      (numbered (same_owner o) (owner_equivalence o) (length L)).found c h

  cliques_few : length (clique_firsts size bz bo (length L) L) ≤ length L
  unfolding clique_firsts
  cliques_few =
      let o = owners size bz bo (length L) L in
      length-few (same_owner o) (owner_equivalence o) (length L) (firsts_of (same_owner o) (length L)) (numbered (same_owner o) (owner_equivalence o) (length L))

  -- the numbers below, where at most 512 columns are different
  pub child-few : length (firsts_below input a b size w zs os) ≤ 512 → (q : ℕ) → q < candidate_count input a b size w zs os
      → number_below input a b size w zs os q < 512
  unfolding number_below
  child-few n q h = omega (arith, n, clique_below (index_in R L q) (number_below_lem q h), cliques_few)

  pub cliques_fit : length (cliques_below input a b size w zs os) ≤ length (firsts_below input a b size w zs os)
  unfolding cliques_below
  cliques_fit = cliques_few

  leads_lem : (cz co : List ℕ) → cz ≡ plane_below input a b size w zs os zs → co ≡ plane_below input a b size w zs os os → (cands : ℕ)
      → cands ≡ candidate_count input a b size w zs os → firsts_of (same_words cz co size) cands ≡ firsts_below input a b size w zs os
  unfolding firsts_below
  leads_lem cz co ez eo cands ec = ap₂ (λ (x y : List ℕ). firsts_of (same_words x y size) cands) ez eo ∙ ap (firsts_of R) ec

  pub too_many_lem : (cz co : List ℕ) → cz ≡ plane_below input a b size w zs os zs → co ≡ plane_below input a b size w zs os os → (cands : ℕ)
      → cands ≡ candidate_count input a b size w zs os → (x : Refusal)
      → ◌≡◌ {A = Result ℕ Refusal} (Err x) (narrow_or (length (firsts_of (same_words cz co size) cands)) (length (firsts_of (same_words cz co size) cands)))
      → ◌≡◌ {A = Result ℕ Refusal} (Err x) (narrow_or (length (firsts_below input a b size w zs os)) (length (cliques_below input a b size w zs os)))
  too_many_lem cz co ez eo cands ec x e =
      let l = firsts_of (same_words cz co size) cands in
      ap Err (refused-wide (length l) (length l) x e)
      ∙ narrow_no (length L) (length (cliques_below input a b size w zs os)) (rw (leads_lem cz co ez eo cands ec) at (many-before (length l) (length l) x e))

  -- what the code's arrays hold
  module _ (cz co : List ℕ) (ez : cz ≡ plane_below input a b size w zs os zs) (eo : co ≡ plane_below input a b size w zs os os) (cands : ℕ)
      (ec : cands ≡ candidate_count input a b size w zs os) (count : ℕ)
      (en : ◌≡◌ {A = Result ℕ Refusal} (Ok count) (narrow_or (length (firsts_of (same_words cz co size) cands)) (length (firsts_of (same_words cz co size) cands)))) where
    leads : firsts_of (same_words cz co size) cands ≡ L
    leads = leads_lem cz co ez eo cands ec

    pub count_is : count ≡ length (firsts_below input a b size w zs os)
    count_is = answer-is (length (firsts_of (same_words cz co size) cands)) count (length (firsts_of (same_words cz co size) cands)) en ∙ ap (λ (l : List ℕ). length l) leads

    pub leads_fit : length (firsts_below input a b size w zs os) ≤ 512
    leads_fit = rw leads at (few-before (length (firsts_of (same_words cz co size) cands)) count (length (firsts_of (same_words cz co size) cands)) en)

    pub count-fits : count ≤ 512
    count-fits = omega (arith, count_is, leads_fit)

    module _ (fs : List ℕ) (ef : fs ≡ sets (replicate 512 0) 0 (firsts_of (same_words cz co size) cands)) where
      fs_is : fs ≡ sets (replicate 512 0) 0 L
      fs_is = ef ∙ ap (λ (l : List ℕ). sets (replicate 512 0) 0 l) leads

      first_at_lem : (c : ℕ) → c < length L → get_or fs c 0 ≡ get_or L c 0
      first_at_lem c h = ap (λ (l : List ℕ). get_or l c 0) fs_is ∙ laid 512 L c leads_fit h

      pub first-room : (c : ℕ) → c < count → get_or fs c 0 * size + size ≤ 1024
      first-room c h =
          let k : c < length L = omega (arith, count_is) in
          rw (first_at_lem c k) (omega (arith, row_end (get_or L c 0) Q size (lead_below c k), cands_room))

      pub cliques_answer : (r : ℕ) → r ≡ length (clique_firsts size cz co count fs)
          → ◌≡◌ {A = Result ℕ Refusal} (Ok r) (narrow_or (length (firsts_below input a b size w zs os)) (length (cliques_below input a b size w zs os)))
      unfolding cliques_below
      cliques_answer r e =
          ap Ok
          (e
          ∙ ap₂ (λ (x y : List ℕ). length (clique_firsts size x y count fs)) ez eo
          ∙ ap (λ (k : ℕ). length (clique_firsts size bz bo k fs)) count_is
          ∙ ap (λ (l : List ℕ). length l) (clique_firsts_named size bz bo (length L) fs L first_at_lem))
          ∙ narrow_yes (length L) (length (clique_firsts size bz bo (length L) L)) leads_fit

      module _ (nums : List ℕ) (eu : nums ≡ puts count (clique_of size cz co count fs) (replicate 512 0)) where
        nums_is : nums ≡ puts (length L) (clique_of size bz bo (length L) L) (replicate 512 0)
        nums_is =
            eu
            ∙ ap₂ (λ (x y : List ℕ). puts count (clique_of size x y count fs) (replicate 512 0)) ez eo
            ∙ ap (λ (k : ℕ). puts k (clique_of size bz bo k fs) (replicate 512 0)) count_is
            ∙ puts_ext (clique_of size bz bo (length L) fs) (clique_of size bz bo (length L) L) (length L) (replicate 512 0)
            (λ c h. clique_of_named size bz bo (length L) fs L first_at_lem c)

        num_at : (c : ℕ) → c < length L → get_or nums c 0 ≡ clique_of size bz bo (length L) L c
        num_at c h = ap (λ (l : List ℕ). get_or l c 0) nums_is ∙ stored 512 (length L) (clique_of size bz bo (length L) L) c leads_fit h

        num_below : (c : ℕ) → c < length L → get_or nums c 0 < Q
        num_below c h = rw (num_at c h) (omega (arith, clique_below c h, cliques_few, leads_few))

        pub columns-room : (c : ℕ) → c < count → (get_or fs c 0 * size + size ≤ 1024) × (get_or nums c 0 * size + size ≤ 1024)
        columns-room c h =
            let k : c < length L = omega (arith, count_is) in
            (first-room c h, omega (arith, row_end (get_or nums c 0) Q size (num_below c k), cands_room))

        pub product_is : (cx from old : List ℕ) → cx ≡ plane_below input a b size w zs os from
            → added_columns size fs nums cx count (puts 1024 (λ i. 0) old) ≡ product_below input a b size w zs os from old
        unfolding product_below
        product_is cx from old ex =
            ap₂ (λ (f u : List ℕ). added_columns size f u cx count (puts 1024 (λ i. 0) old)) fs_is nums_is
            ∙ ap₂ (λ (x : List ℕ) (k : ℕ). added_columns size (sets (replicate 512 0) 0 L) (puts (length L) (clique_of size bz bo (length L) L) (replicate 512 0)) x k (puts 1024 (λ i. 0) old)) ex count_is

        module _ (numbers : List ℕ) (eb : numbers ≡ puts cands (λ q. index_in (same_words cz co size) (firsts_of (same_words cz co size) q) q) (replicate 1024 0)) where
          number_at : (q : ℕ) → q < Q → get_or numbers q 0 ≡ index_in R L q
          unfolding firsts_below
          number_at q h =
              ap (λ (l : List ℕ). get_or l q 0)
              (eb ∙ ap₂ (λ (x y : List ℕ). puts cands (λ q. index_in (same_words x y size) (firsts_of (same_words x y size) q) q) (replicate 1024 0)) ez eo
              ∙ ap (λ (k : ℕ). puts k (λ q. index_in R (firsts_of R q) q) (replicate 1024 0)) ec)
              ∙ stored 1024 Q (λ q. index_in R (firsts_of R q) q) q cands_few h
              ∙ index_kept R (words_equivalence bz bo size) Q q h

          pub number-few : (q : ℕ) → q < cands → get_or numbers q 0 < 512
          number-few q h =
              let k : q < Q = omega (arith, ec) in
              rw (number_at q k) (omega (arith, number_below_lem q k, leads_fit))

          pub below_is : (old : List ℕ)
              → puts cands (λ q. get_or nums (get_or numbers q 0) 0) old ≡ puts (candidate_count input a b size w zs os) (number_below input a b size w zs os) old
          unfolding number_below
          below_is old =
              ap (λ (k : ℕ). puts k (λ q. get_or nums (get_or numbers q 0) 0) old) ec
              ∙ puts_ext (λ q. get_or nums (get_or numbers q 0) 0) (number_below input a b size w zs os) Q old
              (λ q h. ap (λ (i : ℕ). get_or nums i 0) (number_at q h) ∙ num_at (index_in R L q) (number_below_lem q h))
