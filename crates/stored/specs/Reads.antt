-- What a stepper needs of stored records, as the code answers it for any records. Of those that are not well formed: the rails of a cell of at
-- most 80 bytes, rows and the places of rows where besides all cells fit, else 0; and no output is set.
-- Assumes nothing.
use Rattle.std.specs.Prelude.{ℕ, ◌^◌, Bool, cond, ◌&&◌, List, leb, ltb, length}
use Rattle.laws.specs.Tests.{every}
use Rattle.stored_spec.specs.RowBytes.{two_bytes}
use Rattle.stored_spec.specs.StoredForm.{records_formed, cell_count, cell_formed_as, cell_at, row_count}
use Rattle.stored_spec.specs.Run.{row_place, outputs_after}
pub use Rattle.stored.specs.declared.CellRails.{CellRails}

-- the records are well formed and have a cell k
unfoldable pub has_cell : List ℕ → ℕ → Bool
has_cell R k = records_formed R && ltb k (cell_count R)

-- at most 80 bytes, no cell larger than the largest with z bytes a row
unfoldable pub cells_fit_as : ℕ → List ℕ → Bool
cells_fit_as z R = leb (length R) 80 && every (cell_count R) (cell_formed_as z R)

-- with two bytes a row: of these rows can be counted
abbrev pub cells_fit : List ℕ → Bool
cells_fit R = cells_fit_as two_bytes R

unfoldable pub rows_counted : List ℕ → ℕ
rows_counted R = cond (cells_fit R) (row_count R) 0

-- upper and lower rails, of cells of which there may be any number; of at most 80 bytes
unfoldable pub rails_in : List ℕ → ℕ → CellRails
rails_in R k =
    cond (ltb k (cell_count R)) (record { upper = (cell_at R k).upper; lower = (cell_at R k).lower }) (record { upper = 0; lower = 0 })

unfoldable pub cell_rails : List ℕ → ℕ → CellRails
cell_rails R k =
    cond (leb (length R) 80 && ltb k (cell_count R)) (record { upper = (cell_at R k).upper; lower = (cell_at R k).lower })
    (record { upper = 0; lower = 0 })

-- where the row stands that cell k reads for the rail word r, if that is one of its rail words, and the word w
unfoldable pub row_read : List ℕ → ℕ → ℕ → ℕ → ℕ
row_read R k r w = cond (cells_fit R && ltb k (cell_count R) && ltb r (2 ^ (cell_at R k).upper)) (row_place R k r w) 0

-- the outputs after cell k has read the row x
unfoldable pub outputs_read : List ℕ → ℕ → ℕ → List ℕ → List ℕ
outputs_read R k x outs = cond (has_cell R k) (outputs_after (cell_at R k) outs x) outs
