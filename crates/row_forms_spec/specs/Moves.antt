-- The move of a stored cascade between one byte a row and two (document 02, §7).
-- Assumes nothing.
use Rattle.std.specs.Prelude.{ℕ, Bool, false, cond, not, List, ltb, length}
use Rattle.laws.specs.Tests.{any}
use Rattle.laws.specs.Lists.{written}
use Rattle.stored_spec.specs.RowBytes.{one_byte, two_bytes, room, rows_of, row_bytes}
use Rattle.stored_spec.specs.StoredForm.{cell_count, cell_at, size_of, row_count, well_formed_as}
use Rattle.stored_spec.specs.ReadWrite.{Written, written_as}

-- some cell has more than 8 outputs, rails counted
unfoldable pub over_eight : List ℕ → Bool
over_eight R = any (cell_count R) (λ k. ltb 8 (size_of (cell_at R k)).outputs)

-- rows of a bytes each, in order, as rows of b bytes each
abbrev pub moved_rows : ℕ → ℕ → List ℕ → List ℕ
moved_rows a b bytes = row_bytes b (rows_of a bytes)

-- R and bytes are a stored cascade with a bytes a row, records and rows the destination memory, for b bytes a row. 12: bad stored input. 10: destination
-- memory short for records. 11: short for rows. 15: over. Else 0, records are copied and rows moved to the front of the destination, which keeps its rest
unfoldable pub move : ℕ → ℕ → Bool → List ℕ → List ℕ → List ℕ → List ℕ → Written
move a b over R bytes records rows =
    cond (not (well_formed_as a R bytes)) (written_as 12 records rows)
    (cond (ltb (length records) (length R)) (written_as 10 records rows)
    (cond (ltb (length rows) (room b (row_count R))) (written_as 11 records rows)
    (cond over (written_as 15 records rows) (written_as 0 (written records 0 R) (written rows 0 (moved_rows a b bytes))))))

-- up, from one byte a row to two
unfoldable pub widen : List ℕ → List ℕ → List ℕ → List ℕ → Written
widen R bytes records rows = move one_byte two_bytes false R bytes records rows

-- back, from two bytes a row to one: 15 exactly when some cell has more than 8 outputs
unfoldable pub narrow : List ℕ → List ℕ → List ℕ → List ℕ → Written
narrow R bytes records rows = move two_bytes one_byte (over_eight R) R bytes records rows
