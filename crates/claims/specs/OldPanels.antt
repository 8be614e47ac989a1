-- What the move between one byte a row and two keeps of a block (document 02, §7): one that was widened is admitted and stepped as the bank's book says, with
-- the outputs of the cascade that has one byte a row.
-- Assumes nothing.
use Rattle.std.specs.Prelude.{◌≡◌, true, false, List, ◌∷◌, ℕ, ◌-◌, ◌<◌, ◌≤◌, min, length, get_or, replicate}
use Rattle.laws.specs.Tests.{sum}
use Rattle.stored_spec.specs.RowBytes.{one_byte, two_bytes, row_value}
use Rattle.stored_spec.specs.StoredForm.{cell_count}
use Rattle.stored_spec.specs.Run.{run_by}
use Rattle.row_forms_spec.specs.Moves.{over_eight, moved_rows}
use Rattle.bank_spec.specs.Calls.{handed}
use Rattle.bank_spec.specs.Book.{Block, Book, new_book, block_at, is_due, due_cells_of, cells_in, book_refusal}
use Rattle.bank_spec.specs.CallLists.{Call, latching, stepping, book_after}

-- R and bytes are what an old panel holds of the block B: its records, and each row in one byte
pub record OldForm (B : Block) (R bytes : List ℕ) : Type 0 where
  pub records : R ≡ B.records
  pub rows : bytes ≡ moved_rows two_bytes one_byte B.rows
  pub fits : over_eight B.records ≡ false

-- W, with two bytes a row, admits and steps as R and bytes, with one, would
pub record AsBefore (R bytes : List ℕ) (W : Block) : Type 0 where
  -- no admission refuses it for its form
  pub admitted : (S m : ℕ) (bs : List Block) (period phase : ℕ) → book_refusal S m bs (handed W.records W.rows period phase) ≡ 12 → ⊥
  -- in a scan in which it is due: wherever a book has its records and rows, after a latch of the words ws and s steps its outputs are those that R and
  -- bytes set for its word with as many of their cells as are among the first s of the scan
  pub scanned : (S m : ℕ) (k : Book) (ws : List ℕ) (s b : ℕ) → s ≤ cells_in k.next k.blocks → b < length k.blocks
      → is_due k.next (block_at k.blocks b) ≡ true
      → (block_at k.blocks b).records ≡ W.records → (block_at k.blocks b).rows ≡ W.rows
      → (block_at (book_after S m k (latching ws ∷ replicate s stepping)).blocks b).outputs
      ≡ (run_by (row_value one_byte bytes) R (get_or ws b 0) (min (s - sum b (λ i. due_cells_of k.next (block_at k.blocks i))) (cell_count R))).outputs
  -- after every list of calls, wherever the book has its records and rows, the outputs set so far are those that the first n cells of R and bytes set
  pub outputs : (S m : ℕ) (calls : List Call) (b : ℕ) → b < length (book_after S m new_book calls).blocks
      → (block_at (book_after S m new_book calls).blocks b).records ≡ W.records
      → (block_at (book_after S m new_book calls).blocks b).rows ≡ W.rows
      → (n : ℕ) × (n ≤ cell_count R)
      × ((block_at (book_after S m new_book calls).blocks b).outputs
      ≡ (run_by (row_value one_byte bytes) R (block_at (book_after S m new_book calls).blocks b).word n).outputs)
