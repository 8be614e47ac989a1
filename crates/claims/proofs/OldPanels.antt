-- A widened block admits and steps as before (`widened_before`); what the compiler writes for a job with L up to 8 can go back (`compiled_narrows`); and a
-- compiled block that went back is a compiled block again when it is widened (`widened_compiled`), so that demand 3 holds of it.
-- Assumes nothing.
use mathlib.Core.Path.{◌≡◌, ◌∙◌, ap, ap₂}
use mathlib.Core.Bool.{true, false, not, ◌||◌}
use mathlib.Core.List.{List}
use Prim.Native.Nat.{ℕ, ◌+◌, ◌-◌, ◌≤◌, min}
use native.Mathlib.Nat.{min-le_right}
use native.Mathlib.Omega.{arith}
use lib.Dec.{leb, ltb}
use lib.ListN.{length, get_or}
use Rattle.laws.specs.Tests.{any, sum}
use Rattle.laws.proofs.Cases.{cond_both}
use Rattle.sheet_spec.specs.Job.{Job}
use Rattle.stored_spec.specs.RowBytes.{one_byte, two_bytes, room}
use Rattle.stored_spec.specs.StoredForm.{cell_count, row_count, well_formed}
use Rattle.stored_spec.specs.Run.{Running, run}
use Rattle.stored_spec.specs.ReadWrite.{Written}
use Rattle.row_forms_spec.specs.Moves.{over_eight, moved_rows, widen, narrow}
use Rattle.row_forms_spec.proofs.Promises.{gives_0, none_over, records_left, rows_left, widened_same, back_same}
use Rattle.bank_spec.specs.Due.{timed, due_cells}
use Rattle.bank_spec.specs.Calls.{Handed, handed}
use Rattle.bank_spec.specs.Book.{Block, new_book, block_at, due_cells_of, cells_in, rows_in, book_refusal}
use Rattle.bank_spec.specs.CallLists.{book_after}
use Rattle.bank_spec.specs.Demand3.{CompiledBy}
use Rattle.bank_spec.proofs.Promises.{compiled-bytes, compiled-formed, compiled-outputs, book_runs, scan-outputs, due-cells}
use Rattle.claims.specs.OldPanels.{OldForm, AsBefore}

-- a well formed block is not refused with 12
not_12 : (S m : ℕ) (bs : List Block) (h : Handed) → well_formed h.records h.rows ≡ true → book_refusal S m bs h ≡ 12 → ⊥
unfolding book_refusal
not_12 S m bs h e =
    let rows = rows_in bs + row_count h.records in
    rw e
    (cond_both (λ (n : ℕ). n ≡ 12 → ⊥) (not (timed h.period h.phase)) (λ z. omega arith)
    (cond_both (λ (n : ℕ). n ≡ 12 → ⊥) (leb 8 (length bs)) (λ z. omega arith)
    (cond_both (λ (n : ℕ). n ≡ 12 → ⊥) (any 8 (λ n. ltb S (cells_in n bs + due_cells h.period h.phase n h.records))) (λ z. omega arith)
    (cond_both (λ (n : ℕ). n ≡ 12 → ⊥) (ltb m (room two_bytes rows) || ltb 32768 rows) (λ z. omega arith) (λ z. omega arith)))))

-- R and bytes are widened into the memories records and rows, and W has what then stands at their front
module _ (R bytes records rows : List ℕ) (moved : (widen R bytes records rows).answer ≡ 0) (W : Block)
    (has-records : W.records ≡ records_left R (widen R bytes records rows))
    (has-rows : W.rows ≡ rows_left two_bytes R (widen R bytes records rows)) where
  pub widened_before : AsBefore R bytes W
  widened_before =
      let up = widened_same R bytes records rows moved in
      record {
        admitted = λ S m bs period phase.
            not_12 S m bs (handed W.records W.rows period phase) (ap₂ well_formed has-records has-rows ∙ up.formed);
        scanned = λ S m k ws s b l h d p q.
            let B = block_at k.blocks b in
            let n = sum b (λ i. due_cells_of k.next (block_at k.blocks i)) in
            let same : B.records ≡ records_left R (widen R bytes records rows) = p ∙ has-records in
            let count : due_cells_of k.next B ≡ cell_count R = due-cells k.next B d ∙ ap cell_count (same ∙ up.records) in
            scan-outputs S m k ws s b l h d
            ∙ ap₂ (λ (x y : List ℕ). (run x y (get_or ws b 0) (min (s - n) (due_cells_of k.next B))).outputs) same (q ∙ has-rows)
            ∙ ap (λ (c : ℕ). (run (records_left R (widen R bytes records rows)) (rows_left two_bytes R (widen R bytes records rows)) (get_or ws b 0) (min (s - n) c)).outputs) count
            ∙ ap (λ (x : Running). x.outputs) (up.runs (get_or ws b 0) (min (s - n) (cell_count R)) (min-le_right (s - n) (cell_count R)));
        outputs = λ S m calls b h p q.
            let B = block_at (book_after S m new_book calls).blocks b in
            let (n, n≤, is) = book_runs S m calls b h in
            let same : B.records ≡ records_left R (widen R bytes records rows) = p ∙ has-records in
            let few : n ≤ cell_count R = omega (arith, n≤, ap cell_count (same ∙ up.records)) in (
              n,
              few,
              is ∙ ap₂ (λ (x y : List ℕ). (run x y B.word n).outputs) same (q ∙ has-rows)
                  ∙ ap (λ (x : Running). x.outputs) (up.runs B.word n few),
            );
      }

  pub widened_compiled : (j : Job) (s : List ℕ) (B : Block) → CompiledBy j s B → OldForm B R bytes → CompiledBy j s W
  widened_compiled j s B c old =
      let up = widened_same R bytes records rows moved in
      record {
        nodes = c.nodes;
        records = c.records;
        rows = c.rows;
        totals = c.totals;
        accepted = c.accepted;
        records_written = has-records ∙ up.records ∙ old.records ∙ c.records_written;
        rows_written =
            has-rows ∙ up.moved ∙ ap (moved_rows one_byte two_bytes) old.rows
            ∙ back_same B.records B.rows (compiled-formed j s B c) old.fits (compiled-bytes j s B c) ∙ c.rows_written;
      }

-- no cell of a compiled block has more outputs than its job allows
module _ (j : Job) (s : List ℕ) (B : Block) (c : CompiledBy j s B) (few : j.L ≤ 8) where
  pub compiled-fits : over_eight B.records ≡ false
  compiled-fits = none_over B.records (λ k l. omega (arith, compiled-outputs j s B c k l, few))

  pub compiled_narrows : (records rows : List ℕ) → length B.records ≤ length records → room one_byte (row_count B.records) ≤ length rows
      → (narrow B.records B.rows records rows).answer ≡ 0
  unfolding narrow
  compiled_narrows records rows h k =
      ap (λ (x : Written). x.answer)
      (gives_0 two_bytes one_byte (over_eight B.records) B.records B.rows records rows (compiled-formed j s B c) h k compiled-fits)
