-- Computed moves: a cascade of one cell, and one whose first cell has nine outputs.
-- Assumes nothing.
use mathlib.Core.Path.{◌≡◌, refl}
use mathlib.Core.List.{List, [], ◌∷◌}
use Prim.Native.Nat.{ℕ}
use Rattle.stored_spec.specs.Cells.{rows, fits}
use Rattle.stored_spec.specs.RowBytes.{row_value, rows_of, room, row_bytes}
use Rattle.stored_spec.specs.StoredForm.{with_variable, with_cut, reading, stored_cells, cell_count, cell_at, size_of, rows_before, row_count, record_formed, cell_formed_as, records_formed_as, rows_formed_as, well_formed_as}
use Rattle.stored_spec.specs.ReadWrite.{written_as}
use Rattle.row_forms_spec.specs.Moves.{over_eight, move, widen, narrow}

-- computes with every definition named
unfoldable opened : Unit {0}
unfolding rows fits with_variable with_cut reading stored_cells cell_count cell_at size_of rows_before row_count record_formed cell_formed_as records_formed_as rows_formed_as well_formed_as row_value rows_of room row_bytes over_eight move widen narrow
opened = tt

-- x1, y1, y2, a cut: a cell of two rows, each below 4
abbrev R : List ℕ
R = 0 ∷ 0 ∷ 0 ∷ 0 ∷ 128 ∷ 0 ∷ 0 ∷ 0 ∷ 129 ∷ 1 ∷ 0 ∷ 0 ∷ []

abbrev one : List ℕ
one = 2 ∷ 1 ∷ []

abbrev two : List ℕ
two = 2 ∷ 0 ∷ 1 ∷ 0 ∷ []

-- x1, y1 to y8, a cut with 1 rail, x2, a cut: a cell of nine outputs and two rows, and one of no outputs and four rows. Each row of one byte would fit
abbrev N : List ℕ
N =
    0 ∷ 0 ∷ 0 ∷ 0 ∷ 128 ∷ 0 ∷ 0 ∷ 0 ∷ 129 ∷ 0 ∷ 0 ∷ 0 ∷ 130 ∷ 0 ∷ 0 ∷ 0 ∷ 131 ∷ 0 ∷ 0 ∷ 0
    ∷ 132 ∷ 0 ∷ 0 ∷ 0 ∷ 133 ∷ 0 ∷ 0 ∷ 0 ∷ 134 ∷ 0 ∷ 0 ∷ 0 ∷ 135 ∷ 1 ∷ 1 ∷ 0 ∷ 1 ∷ 1 ∷ 0 ∷ 0 ∷ []

abbrev nine : List ℕ
nine = 7 ∷ 0 ∷ 9 ∷ 0 ∷ 0 ∷ 0 ∷ 0 ∷ 0 ∷ 0 ∷ 0 ∷ 0 ∷ 0 ∷ []

-- memories with room for the records of R, and for those of N
abbrev m12 : List ℕ
m12 = 7 ∷ 7 ∷ 7 ∷ 7 ∷ 7 ∷ 7 ∷ 7 ∷ 7 ∷ 7 ∷ 7 ∷ 7 ∷ 7 ∷ []

abbrev m40 : List ℕ
m40 =
    7 ∷ 7 ∷ 7 ∷ 7 ∷ 7 ∷ 7 ∷ 7 ∷ 7 ∷ 7 ∷ 7 ∷ 7 ∷ 7 ∷ 7 ∷ 7 ∷ 7 ∷ 7 ∷ 7 ∷ 7 ∷ 7 ∷ 7
    ∷ 7 ∷ 7 ∷ 7 ∷ 7 ∷ 7 ∷ 7 ∷ 7 ∷ 7 ∷ 7 ∷ 7 ∷ 7 ∷ 7 ∷ 7 ∷ 7 ∷ 7 ∷ 7 ∷ 7 ∷ 7 ∷ 7 ∷ 7 ∷ []

-- up: rows in order, the low byte first, and both memories kept past what is written
pub up : widen R one (9 ∷ m12) (5 ∷ 5 ∷ 5 ∷ 5 ∷ 5 ∷ []) ≡ written_as 0 (0 ∷ 0 ∷ 0 ∷ 0 ∷ 128 ∷ 0 ∷ 0 ∷ 0 ∷ 129 ∷ 1 ∷ 0 ∷ 0 ∷ 7 ∷ []) (2 ∷ 0 ∷ 1 ∷ 0 ∷ 5 ∷ [])
unfolding opened
up = refl

-- a row of 4; a byte too many; two bytes a row; a cell of nine outputs, though each row is below 256
pub up_limit : widen R (2 ∷ 4 ∷ []) m12 m12 ≡ written_as 12 m12 m12
unfolding opened
up_limit = refl

pub up_byte_more : widen R (2 ∷ 1 ∷ 0 ∷ []) m12 m12 ≡ written_as 12 m12 m12
unfolding opened
up_byte_more = refl

pub up_two : widen R two m12 m12 ≡ written_as 12 m12 m12
unfolding opened
up_two = refl

pub up_nine : widen N (7 ∷ 9 ∷ 0 ∷ 0 ∷ 0 ∷ 0 ∷ []) m40 m40 ≡ written_as 12 m40 m40
unfolding opened
up_nine = refl

-- 12 before 10, 10 before 11: no memory at all; memory short for rows by one byte
pub up_nothing : widen R (2 ∷ 4 ∷ []) [] [] ≡ written_as 12 [] []
unfolding opened
up_nothing = refl

pub up_records : widen R one [] [] ≡ written_as 10 [] []
unfolding opened
up_records = refl

pub up_rows : widen R one m12 (5 ∷ 5 ∷ 5 ∷ []) ≡ written_as 11 m12 (5 ∷ 5 ∷ 5 ∷ [])
unfolding opened
up_rows = refl

-- back
pub back : narrow R two (9 ∷ m12) (5 ∷ 5 ∷ 5 ∷ []) ≡ written_as 0 (0 ∷ 0 ∷ 0 ∷ 0 ∷ 128 ∷ 0 ∷ 0 ∷ 0 ∷ 129 ∷ 1 ∷ 0 ∷ 0 ∷ 7 ∷ []) (2 ∷ 1 ∷ 5 ∷ [])
unfolding opened
back = refl

pub back_odd : narrow R (2 ∷ 0 ∷ 1 ∷ []) m12 m12 ≡ written_as 12 m12 m12
unfolding opened
back_odd = refl

pub back_records : narrow R two [] [] ≡ written_as 10 [] []
unfolding opened
back_records = refl

pub back_rows : narrow R two m12 (5 ∷ []) ≡ written_as 11 m12 (5 ∷ [])
unfolding opened
back_rows = refl

-- nine outputs: 15, though each row is below 256; after 10 and 11, of which 11 asks for a byte a row
pub back_nine : narrow N nine m40 m12 ≡ written_as 15 m40 m12
unfolding opened
back_nine = refl

pub back_nine_records : narrow N nine m12 m12 ≡ written_as 10 m12 m12
unfolding opened
back_nine_records = refl

pub back_nine_rows : narrow N nine m40 one ≡ written_as 11 m40 one
unfolding opened
back_nine_rows = refl

pub back_nine_exact : narrow N nine m40 (5 ∷ 5 ∷ 5 ∷ 5 ∷ 5 ∷ 5 ∷ []) ≡ written_as 15 m40 (5 ∷ 5 ∷ 5 ∷ 5 ∷ 5 ∷ 5 ∷ [])
unfolding opened
back_nine_exact = refl
