-- What is made of an accepted job and sheet: the stored form is well formed, a run over it follows the reduced function, and after its last
-- cell every output is set to a value that the sheet allows.
-- Assumes nothing.
use mathlib.Core.Path.{◌≡◌, refl, sym, ◌∙◌, ap}
use mathlib.Core.Bool.{true, false}
use mathlib.Core.List.{List, [], ◌∷◌}
use Prim.Native.Nat.{ℕ, suc, ◌-◌, ◌<◌, ◌≤◌}
use native.Mathlib.Omega.{arith}
use lib.Dec.{leb}
use lib.ListN.{length, get_or}
use borrow.Author.Tests.{leb-true}
use Rattle.laws.proofs.Cases.{and_split}
use Rattle.sheet_spec.specs.Job.{Job, t, input_list, number_of}
use Rattle.sheet_spec.specs.Values.{value, allows}
use Rattle.sheet_spec.specs.Refusals.{sheet_refusal}
use Rattle.sheet_spec.specs.Table.{table}
use Rattle.reduction_spec.specs.Columns.{layers}
use Rattle.reduction_spec.specs.Merge.{reduced}
use Rattle.cutting_spec.specs.Cuts.{CutList, cell_between, cells_of}
use Rattle.cutting_spec.specs.Choice.{refuse8, admissible}
use Rattle.stored_spec.specs.RowBytes.{two_bytes, row_value}
use Rattle.stored_spec.specs.declared.Cell.{Cell}
use Rattle.stored_spec.specs.Cells.{fits, all_fit}
use Rattle.stored_spec.specs.StoredForm.{cell_count, cell_at, size_of, row_count, well_formed}
use Rattle.stored_spec.specs.Run.{run, run_by}
use Rattle.stored_spec.proofs.Promises.{formed-records, row_kept, same_rows}
use Rattle.cutting_spec.specs.Compile.{widths_of, made}
use Rattle.cutting_spec.proofs.StoredCuts.{cell-count, cell-size, rows-length, cuts-some}
use Rattle.cutting_spec.proofs.Emits.{Emitted, compiled-emits, compiled-all}
use Rattle.cutting_spec.proofs.StoredWell.{fit_at, compiled-formed, compiled-small}
use Rattle.cutting_spec.proofs.ChosenCuts.{chosen-cuts, chosen-admissible}

pub cells_count : (j : Job) (ws l : List ℕ) → length (cells_of j ws l) ≡ length l - 1
unfolding cells_of
cells_count j ws [] = refl
cells_count j ws (a ∷ []) = refl
cells_count j ws (a ∷ b ∷ l) = let e = cells_count j ws (b ∷ l) in omega arith

module _ (j : Job) (s : List ℕ) (e : sheet_refusal j s ≡ 0) (kept : refuse8 j (made j (table j s)).widths ≡ false) where
  pub made-cuts : CutList (t j) (made j (table j s)).cuts
  unfolding made
  made-cuts = chosen-cuts j (made j (table j s)).widths kept

  pub made-count : cell_count (made j (table j s)).records ≡ (made j (table j s)).cells
  unfolding made
  made-count =
      let l = (made j (table j s)).cuts in
      let ws = widths_of (layers j (reduced j (table j s))) in
      cell-count j ws l made-cuts ∙ sym (cells_count j ws l)

  pub made-formed : well_formed (made j (table j s)).records (made j (table j s)).row_bytes ≡ true
  unfolding made
  made-formed = compiled-formed j s e (made j (table j s)).cuts made-cuts (chosen-admissible j (made j (table j s)).widths kept)

  -- no cell has more outputs than the job allows
  pub made-outputs : (k : ℕ) → k < cell_count (made j (table j s)).records → (size_of (cell_at (made j (table j s)).records k)).outputs ≤ j.L
  unfolding made admissible fits
  made-outputs k h =
      let l = (made j (table j s)).cuts in
      let ws = widths_of (layers j (reduced j (table j s))) in
      let p : suc k < length l = omega (arith, cell-count j ws l made-cuts) in
      let c = cell_between j ws (get_or l k 0) (get_or l (suc k) 0) in
      let all = (and_split (all_fit j.K j.L (cells_of j ws l)) _ (chosen-admissible j (made j (table j s)).widths kept)).0 in
      let few = leb-true c.outputs j.L (and_split (leb c.inputs j.K) (leb c.outputs j.L) (fit_at j ws j.K j.L l k all p)).1 in
      omega (arith, few, ap (λ (x : Cell). x.outputs) (cell-size j ws l made-cuts k p))

  -- the rows read from their bytes
  made-rows : (p : ℕ) → p < row_count (made j (table j s)).records → row_value two_bytes (made j (table j s)).row_bytes p ≡ get_or (made j (table j s)).rows p 0
  unfolding made
  made-rows p h =
      let l = (made j (table j s)).cuts in
      let f = reduced j (table j s) in
      let n = rows-length j f (layers j f) (widths_of (layers j f)) l made-cuts in
      let q : p < length (made j (table j s)).rows = omega (arith, n) in
      row_kept two_bytes (made j (table j s)).rows p q
      (compiled-small j s e l made-cuts (chosen-admissible j (made j (table j s)).widths kept) p q)

  module _ (w : ℕ) where
    -- a run over them is a run over the rows
    pub made-run : (k : ℕ) → k < length (made j (table j s)).cuts
        → run (made j (table j s)).records (made j (table j s)).row_bytes w k
        ≡ run_by (λ p. get_or (made j (table j s)).rows p 0) (made j (table j s)).records w k
    unfolding made
    made-run k h =
        same_rows (made j (table j s)).records (formed-records _ _ made-formed) (row_value two_bytes (made j (table j s)).row_bytes)
        (λ p. get_or (made j (table j s)).rows p 0) made-rows w k (omega (arith, made-count, cells_count j (made j (table j s)).widths (made j (table j s)).cuts))

    -- after k cells
    pub made-emits : (k : ℕ) → k < length (made j (table j s)).cuts
        → Emitted j (reduced j (table j s)) (number_of (input_list j) w) (get_or (made j (table j s)).cuts k 0)
        (run (made j (table j s)).records (made j (table j s)).row_bytes w k)
    unfolding made
    made-emits k h = rw (made-run k h) (compiled-emits j s e (made j (table j s)).cuts made-cuts w k h)

    -- after all cells
    pub made_all : (o : ℕ) → o < j.m
        → (get_or (run (made j (table j s)).records (made j (table j s)).row_bytes w (made j (table j s)).cells).outputs o 2 < 2)
        × (allows (value s w o) (get_or (run (made j (table j s)).records (made j (table j s)).row_bytes w (made j (table j s)).cells).outputs o 2) ≡ true)
    unfolding made
    made_all o h =
        let l = (made j (table j s)).cuts in
        let n = cells_count j (widths_of (layers j (reduced j (table j s)))) l in
        let some = cuts-some made-cuts in
        rw (n, made-run (length l - 1) (omega arith)) (compiled-all j s e l made-cuts w o h)
