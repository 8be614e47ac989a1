-- Memory that is enough for every job: no job that passes refusals 1 to 8 has more than 10,240 nodes, 20 records or 12,288 rows.
-- Assumes nothing.
use mathlib.Core.Path.{◌≡◌, ap}
use mathlib.Core.Bool.{false}
use mathlib.Core.List.{List}
use Prim.Native.Nat.{ℕ, ◌≤◌}
use native.Mathlib.Omega.{arith}
use lib.Dec.{eqb}
use lib.ListN.{length}
use Rattle.laws.proofs.Cases.{by_test, by_equal, cond_both}
use Rattle.sheet_spec.specs.Job.{Job}
use Rattle.sheet_spec.specs.Refusals.{refuse1, refuse2, refuse3, refuse4, refuse5, refuse6, sheet_refusal}
use Rattle.sheet_spec.specs.Table.{table}
use Rattle.reduction_spec.specs.Columns.{layers}
use Rattle.reduction_spec.specs.Merge.{reduced, refuse7}
use Rattle.reduction_spec.specs.Diagram.{node_words}
use Rattle.reduction_spec.specs.Reduction.{reduction_refusal}
use Rattle.reduction_spec.proofs.Promises.{length-node_words, nodes_fit, accepted, narrow, few-variables}
use Rattle.stored_spec.specs.RowBytes.{two_bytes}
use Rattle.stored_spec.proofs.Promises.{length-row_bytes, room_two}
use Rattle.cutting_spec.specs.Choice.{refuse8}
use Rattle.cutting_spec.specs.Compile.{widths_of, made}
use Rattle.cutting.specs.Outcome.{Outcome, outcome}
use Rattle.cutting_spec.proofs.StoredCuts.{rows_total}
use Rattle.cutting_spec.proofs.MadeCascade.{made-cuts}
use Rattle.cutting_spec.proofs.RowLimit.{sheet-rows}
use Rattle.cutting.proofs.Outcomes.{outcome_early, outcome_8, outcome-accepted}

module _ (j : Job) (s : List ℕ) where
  early_few : reduction_refusal j s ≤ 7
  unfolding reduction_refusal sheet_refusal
  early_few =
      let Few : ℕ → Type 0 = λ n. n ≤ 7 in
      cond_both Few (eqb (sheet_refusal j s) 0) (cond_both Few (refuse7 j (table j s)) (omega arith) (omega arith))
      (cond_both Few (refuse1 j) (omega arith)
      (cond_both Few (refuse2 j) (omega arith)
      (cond_both Few (refuse3 s) (omega arith)
      (cond_both Few (refuse4 j s) (omega arith)
      (cond_both Few (refuse5 j s) (omega arith)
      (cond_both Few (refuse6 j s) (omega arith) (omega arith)))))))

  words-few : sheet_refusal j s ≡ 0 → refuse7 j (table j s) ≡ false → length (node_words (made j (table j s)).nodes) ≤ 30720
  unfolding made
  words-few e slim = omega (arith, length-node_words (made j (table j s)).nodes, nodes_fit j s e slim)

  pub rows_few : sheet_refusal j s ≡ 0 → refuse7 j (table j s) ≡ false → refuse8 j (made j (table j s)).widths ≡ false
      → length (made j (table j s)).rows ≤ 12288
  unfolding made
  rows_few e slim kept =
      let f = reduced j (table j s) in
      let ws = widths_of (layers j f) in
      let l = (made j (table j s)).cuts in
      omega (arith, rows_total j f (layers j f) ws l, sheet-rows j s e slim l (made-cuts j s e kept))

  row-bytes-few : sheet_refusal j s ≡ 0 → refuse7 j (table j s) ≡ false → refuse8 j (made j (table j s)).widths ≡ false
      → length (made j (table j s)).row_bytes ≤ 24576
  unfolding made
  row-bytes-few e slim kept =
      let rows = (made j (table j s)).rows in
      omega (arith, length-row_bytes two_bytes rows, room_two (length rows), rows_few e slim kept)

abbrev answered_with : Outcome → ℕ
answered_with o = o.answer.refusal

-- as lent by the program, refusals 9, 10 and 11 are not given
pub enough : (nodes records rows : List ℕ) (j : Job) (s : List ℕ) → 30720 ≤ length nodes → 80 ≤ length records → 65536 ≤ length rows
    → (outcome nodes records rows j s).answer.refusal ≤ 8
enough nodes records rows j s room space long =
    by_equal (reduction_refusal j s) 0
    (λ none.
    let e : sheet_refusal j s ≡ 0 = accepted j s none in
    let slim : refuse7 j (table j s) ≡ false = narrow j s none in
    by_test (refuse8 j (made j (table j s)).widths)
    (λ no_list. omega (arith, ap answered_with (outcome_8 nodes records rows j s e slim no_list)))
    (λ kept.
    omega (
      arith,
      ap answered_with
          (outcome-accepted nodes records rows j s e slim kept (omega (arith, words-few j s e slim)) (omega (arith, few-variables j s none))
          (omega (arith, row-bytes-few j s e slim kept))),
    )))
    (λ some. omega (arith, early_few j s, ap answered_with (outcome_early nodes records rows j s some)))
