-- What the compiler answers and leaves in the lent memories, case by case: each refusal, and acceptance.
-- Assumes nothing.
use mathlib.Core.Path.{◌≡◌, refl, sym, ◌∙◌, ap}
use mathlib.Core.Bool.{true, false, cond}
use mathlib.Core.List.{List}
use Prim.Native.Nat.{ℕ, ◌*◌, ◌<◌, ◌≤◌}
use borrow.Author.Tests.{eq-eqb, ne_eqb, lt-ltb, le-ltb}
use lib.Dec.{eqb, ltb}
use lib.ListN.{length}
use Rattle.laws.specs.Lists.{written}
use Rattle.laws.proofs.Cases.{by_test, by_equal, cond_yes, cond_no}
use Rattle.sheet_spec.specs.Job.{Job, t}
use Rattle.sheet_spec.specs.Refusals.{sheet_refusal}
use Rattle.sheet_spec.specs.Table.{table}
use Rattle.reduction_spec.specs.Merge.{refuse7}
use Rattle.reduction_spec.specs.Diagram.{node_words}
use Rattle.reduction_spec.specs.Reduction.{reduction_refusal}
use Rattle.cutting_spec.specs.Choice.{refuse8}
use Rattle.cutting_spec.specs.Compile.{Made, made, totals, refused, accepted, CompiledAs, refusal, acceptance, lend, reduce, compile_as, compile_words}
use Rattle.cutting.specs.Outcome.{answered, outcome_of, shown, outcome}

module _ (nodes records rows : List ℕ) (j : Job) (s : List ℕ) where
  abbrev kept : ℕ → CompiledAs ℕ
  kept = refusal node_words nodes records rows

  abbrev cascade : Made
  cascade = made j (table j s)

  abbrev lent : CompiledAs ℕ
  lent = lend node_words nodes records rows j cascade

  refused_as_lem : (n : ℕ) → outcome_of (answered (refused n)) nodes records rows ≡ shown (kept n)
  unfolding refusal
  refused_as_lem n = refl

  -- 1 to 6, and 7
  from-sheet : (sheet_refusal j s ≡ 0 → ⊥) → compile_words nodes records rows j s ≡ kept (sheet_refusal j s)
  unfolding compile_words compile_as
  from-sheet h = cond_no (eqb (sheet_refusal j s) 0) _ (kept (sheet_refusal j s)) (ne_eqb (sheet_refusal j s) 0 h)

  past_sheet : sheet_refusal j s ≡ 0 → compile_words nodes records rows j s ≡ reduce node_words nodes records rows j (table j s)
  unfolding compile_words compile_as
  past_sheet e = cond_yes (eqb (sheet_refusal j s) 0) _ (kept (sheet_refusal j s)) (eq-eqb (sheet_refusal j s) 0 e)

  too_wide_lem : refuse7 j (table j s) ≡ true → reduce node_words nodes records rows j (table j s) ≡ kept 7
  unfolding reduce
  too_wide_lem e = cond_yes (refuse7 j (table j s)) (kept 7) _ e

  not_wide : refuse7 j (table j s) ≡ false
      → reduce node_words nodes records rows j (table j s) ≡ cond (refuse8 j cascade.widths) (kept 8) lent
  unfolding reduce
  not_wide e = cond_no (refuse7 j (table j s)) (kept 7) _ e

  pub outcome_early : (reduction_refusal j s ≡ 0 → ⊥)
      → outcome_of (answered (refused (reduction_refusal j s))) nodes records rows ≡ outcome nodes records rows j s
  unfolding outcome reduction_refusal
  outcome_early h =
      let narrow : ℕ = cond (refuse7 j (table j s)) 7 0 in
      by_equal (sheet_refusal j s) 0
      (λ e.
      let sheet : reduction_refusal j s ≡ narrow = cond_yes (eqb (sheet_refusal j s) 0) narrow (sheet_refusal j s) (eq-eqb (sheet_refusal j s) 0 e) in
      by_test (refuse7 j (table j s))
      (λ wide.
      let seven : reduction_refusal j s ≡ 7 = sheet ∙ cond_yes (refuse7 j (table j s)) 7 0 wide in
      ap (λ (n : ℕ). outcome_of (answered (refused n)) nodes records rows) seven ∙ refused_as_lem 7
      ∙ ap shown (sym (past_sheet e ∙ too_wide_lem wide)))
      (λ wide. absurd (h (sheet ∙ cond_no (refuse7 j (table j s)) 7 0 wide))))
      (λ e.
      let sheet : reduction_refusal j s ≡ sheet_refusal j s = cond_no (eqb (sheet_refusal j s) 0) narrow (sheet_refusal j s) (ne_eqb (sheet_refusal j s) 0 e) in
      ap (λ (n : ℕ). outcome_of (answered (refused n)) nodes records rows) sheet ∙ refused_as_lem (sheet_refusal j s)
      ∙ ap shown (sym (from-sheet e)))

  module _ (e : sheet_refusal j s ≡ 0) (narrow : refuse7 j (table j s) ≡ false) where
    -- 8
    pub outcome_8 : refuse8 j (made j (table j s)).widths ≡ true → outcome_of (answered (refused 8)) nodes records rows ≡ outcome nodes records rows j s
    unfolding outcome
    outcome_8 none =
        refused_as_lem 8 ∙ ap shown (sym (past_sheet e ∙ not_wide narrow ∙ cond_yes (refuse8 j cascade.widths) (kept 8) lent none))

    module _ (some : refuse8 j (made j (table j s)).widths ≡ false) where
      outcome-lent : outcome nodes records rows j s ≡ shown lent
      unfolding outcome
      outcome-lent = ap shown (past_sheet e ∙ not_wide narrow ∙ cond_no (refuse8 j cascade.widths) (kept 8) lent some)

      abbrev rest11 : CompiledAs ℕ
      rest11 = cond (ltb (length rows) (length cascade.row_bytes)) (kept 11) (acceptance node_words nodes records rows j cascade)

      abbrev rest10 : CompiledAs ℕ
      rest10 = cond (ltb (length records) (4 * t j)) (kept 10) rest11

      lent_9 : length nodes < length (node_words cascade.nodes) → lent ≡ kept 9
      unfolding lend
      lent_9 h = cond_yes (ltb (length nodes) (length (node_words cascade.nodes))) (kept 9) rest10 (lt-ltb _ _ h)

      past_9 : length (node_words cascade.nodes) ≤ length nodes → lent ≡ rest10
      unfolding lend
      past_9 h = cond_no (ltb (length nodes) (length (node_words cascade.nodes))) (kept 9) rest10 (le-ltb _ _ h)

      past_10 : 4 * t j ≤ length records → rest10 ≡ rest11
      past_10 h = cond_no (ltb (length records) (4 * t j)) (kept 10) rest11 (le-ltb _ _ h)

      -- 9
      pub outcome_9 : length nodes < length (node_words (made j (table j s)).nodes)
          → outcome_of (answered (refused 9)) nodes records rows ≡ outcome nodes records rows j s
      outcome_9 h = refused_as_lem 9 ∙ ap shown (sym (lent_9 h)) ∙ sym outcome-lent

      module _ (room : length (node_words (made j (table j s)).nodes) ≤ length nodes) where
        -- 10
        pub outcome_10 : length records < 4 * t j → outcome_of (answered (refused 10)) nodes records rows ≡ outcome nodes records rows j s
        outcome_10 h =
            refused_as_lem 10
            ∙ ap shown (sym (past_9 room ∙ cond_yes (ltb (length records) (4 * t j)) (kept 10) rest11 (lt-ltb (length records) (4 * t j) h)))
            ∙ sym outcome-lent

        module _ (space : 4 * t j ≤ length records) where
          -- 11
          pub outcome_11 : length rows < length (made j (table j s)).row_bytes
              → outcome_of (answered (refused 11)) nodes records rows ≡ outcome nodes records rows j s
          outcome_11 h =
              refused_as_lem 11
              ∙ ap shown
              (sym
              (past_9 room ∙ past_10 space
              ∙ cond_yes (ltb (length rows) (length cascade.row_bytes)) (kept 11) (acceptance node_words nodes records rows j cascade)
              (lt-ltb (length rows) (length cascade.row_bytes) h)))
              ∙ sym outcome-lent

          -- none
          pub outcome-accepted : length (made j (table j s)).row_bytes ≤ length rows
              → outcome_of (answered (accepted (totals j (made j (table j s))))) (written nodes 0 (node_words (made j (table j s)).nodes))
              (written records 0 (made j (table j s)).records) (written rows 0 (made j (table j s)).row_bytes)
              ≡ outcome nodes records rows j s
          unfolding acceptance
          outcome-accepted h =
              ap shown
              (sym
              (past_9 room ∙ past_10 space
              ∙ cond_no (ltb (length rows) (length cascade.row_bytes)) (kept 11) (acceptance node_words nodes records rows j cascade)
              (le-ltb (length rows) (length cascade.row_bytes) h)))
              ∙ sym outcome-lent
