-- Where the cells of a stored cascade lie: the heights of their cuts, and the places of their rows.
-- Assumes nothing.
use Rattle.std.specs.Prelude.{ℕ, suc, ◌+◌, ◌-◌, cond, ◌&&◌, List, ltb, length}
use Rattle.laws.specs.Tests.{sum}
use Rattle.stored_spec.specs.StoredForm.{StoredCell, record_count, cell_at, cell_count, rows_before, records_formed}
pub use Rattle.stored.specs.declared.CellPlace.{CellPlace}

-- of records R: how many variables a cell has, and the height of the cut above cell k
unfoldable pub variables_of : StoredCell → ℕ
variables_of c = length c.ins + length c.outs

unfoldable pub height_above : List ℕ → ℕ → ℕ
height_above R k = record_count R - sum k (λ i. variables_of (cell_at R i))

-- cell k: the heights of its cuts, and where its rows begin and end among the cascade's. Zeros where the records are not well formed, or
-- have no such cell
abbrev pub no_place : CellPlace
no_place = record { top = 0; bottom = 0; at = 0; end = 0 }

unfoldable pub cell_place : List ℕ → ℕ → CellPlace
cell_place R k =
    let place : CellPlace = record { top = height_above R k; bottom = height_above R (suc k); at = rows_before R k; end = rows_before R (suc k) } in
    cond (records_formed R && ltb k (cell_count R)) place no_place
