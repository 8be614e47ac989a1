-- A well formed cascade whose cells fit the other form too: its rows moved are well formed in that form, have the same values, make the same run, and
-- moved back are the bytes that they were.
-- Assumes nothing.
use mathlib.Core.Path.{◌≡◌, ◌∙◌, ap}
use mathlib.Core.Bool.{true}
use mathlib.Core.List.{List}
use Prim.Native.Nat.{ℕ, ◌+◌, ◌*◌, ◌/◌, ◌^◌, ◌<◌, ◌≤◌}
use native.Mathlib.Omega.{arith}
use lib.Dec.{leb, ltb}
use lib.ListN.{length, get_or}
use lib.Pow.{pow_mono}
use borrow.Author.Tests.{eq-eqb, leb-true, ltb-true, lt-ltb}
use Rattle.laws.specs.Tests.{every}
use Rattle.laws.proofs.Cases.{and_split, and_join}
use Rattle.laws.proofs.Counts.{sum_at, in_part}
use Rattle.laws.proofs.Tests.{every_of, every_at}
use Rattle.stored_spec.specs.Cells.{rows, fits}
use Rattle.stored_spec.specs.RowBytes.{row_value, room, rows_of, row_bytes}
use Rattle.stored_spec.specs.StoredForm.{cell_count, cell_at, size_of, rows_before, row_count, cell_formed_as, records_formed, records_formed_as, rows_formed_as, well_formed_as}
use Rattle.stored_spec.specs.Run.{run_by}
use Rattle.stored_spec.proofs.StoredParts.{records_fit}
use Rattle.stored_spec.proofs.ReadWriteCases.{formed_parts}
use Rattle.stored_spec.proofs.RowForms.{length-row_bytes, length-rows_of, row_at, row_kept, rows-room, rows-kept, bytes-kept}
use Rattle.stored_spec.proofs.SameRuns.{same_rows}
use Rattle.row_forms_spec.specs.Moves.{moved_rows}

-- every element is a byte, as in every slice
abbrev pub AreBytes : List ℕ → Type 0
AreBytes l = (i : ℕ) → get_or l i 0 < 256

module _ (a b : ℕ) (R bytes : List ℕ) (someA : 0 < a) (someB : 0 < b) (well : well_formed_as a R bytes ≡ true)
    (fit : every (cell_count R) (cell_formed_as b R) ≡ true) where
  parts : (records_formed_as a R ≡ true) × (length bytes ≡ room a (row_count R)) × (every (cell_count R) (rows_formed_as a R bytes) ≡ true)
  parts = formed_parts a R bytes well

  whole : length bytes / a ≡ row_count R
  whole = ap (λ (n : ℕ). n / a) parts.1 ∙ rows-room a someA (row_count R)

  count : length (rows_of a bytes) ≡ row_count R
  count = length-rows_of a bytes ∙ whole

  few : (k : ℕ) → k < cell_count R → (size_of (cell_at R k)).outputs ≤ 8 * b
  unfolding cell_formed_as fits
  few k l =
      let c = size_of (cell_at R k) in
      leb-true c.outputs (8 * b) (and_split (leb c.inputs 12) (leb c.outputs (8 * b)) (every_at (cell_formed_as b R) (cell_count R) fit k l)).1

  -- row i of cell k, before
  row_below : (k i : ℕ) → k < cell_count R → i < rows (size_of (cell_at R k)) → row_value a bytes (rows_before R k + i) < 2 ^ (size_of (cell_at R k)).outputs
  unfolding rows_formed_as
  row_below k i l h =
      let c = size_of (cell_at R k) in
      ltb-true (row_value a bytes (rows_before R k + i)) (2 ^ c.outputs)
      (every_at (λ i. ltb (row_value a bytes (rows_before R k + i)) (2 ^ c.outputs)) (rows c) (every_at (rows_formed_as a R bytes) (cell_count R) parts.2 k l) i h)

  -- each row fits in b bytes
  row_small : (p : ℕ) → p < row_count R → row_value a bytes p < 2 ^ (8 * b)
  unfolding row_count rows_before
  row_small p h =
      let r = in_part (λ j. rows (size_of (cell_at R j))) (cell_count R) p h in
      let m : 2 ^ (size_of (cell_at R r.part)).outputs ≤ 2 ^ (8 * b) = pow_mono (few r.part r.within) in
      rw r.at (omega (arith, row_below r.part r.place r.within r.below, m))

  each-small : (p : ℕ) → p < length (rows_of a bytes) → get_or (rows_of a bytes) p 0 < 2 ^ (8 * b)
  each-small p h = rw (row_at a bytes p (omega (arith, count, whole))) (row_small p (omega (arith, count)))

  -- the same row, after
  pub row_moved : (p : ℕ) → p < row_count R → row_value b (moved_rows a b bytes) p ≡ row_value a bytes p
  row_moved p h =
      let l : p < length (rows_of a bytes) = omega (arith, count) in
      row_kept b (rows_of a bytes) p l (each-small p l) ∙ row_at a bytes p (omega (arith, whole))

  pub length_moved : length (moved_rows a b bytes) ≡ room b (row_count R)
  length_moved = length-row_bytes b (rows_of a bytes) ∙ ap (room b) count

  pub well_moved : well_formed_as b R (moved_rows a b bytes) ≡ true
  unfolding well_formed_as rows_formed_as row_count rows_before
  well_moved =
      and_join
      (and_join (records_fit a b R parts.0 fit) (eq-eqb (length (moved_rows a b bytes)) (room b (row_count R)) length_moved))
      (every_of (rows_formed_as b R (moved_rows a b bytes)) (cell_count R)
      (λ k l.
      every_of (λ i. ltb (row_value b (moved_rows a b bytes) (rows_before R k + i)) (2 ^ (size_of (cell_at R k)).outputs)) (rows (size_of (cell_at R k)))
      (λ i h.
      let p< : rows_before R k + i < row_count R = omega (arith, sum_at (λ j. rows (size_of (cell_at R j))) (cell_count R) k l) in
      lt-ltb (row_value b (moved_rows a b bytes) (rows_before R k + i)) (2 ^ (size_of (cell_at R k)).outputs)
      (omega (arith, row_moved (rows_before R k + i) p<, row_below k i l h)))))

  pub run_moved : records_formed R ≡ true → (w k : ℕ) → k ≤ cell_count R → run_by (row_value b (moved_rows a b bytes)) R w k ≡ run_by (row_value a bytes) R w k
  run_moved formed w k l = same_rows R formed (row_value b (moved_rows a b bytes)) (row_value a bytes) row_moved w k l

  -- and moved back
  pub moved_back : AreBytes bytes → moved_rows b a (moved_rows a b bytes) ≡ bytes
  moved_back h = ap (row_bytes a) (rows-kept b someB (rows_of a bytes) each-small) ∙ bytes-kept a someA bytes (row_count R) parts.1 h
