-- `rows_formed` tests the rows of each cell.
-- Assumes nothing.
use mathlib.Core.Bool.{true}
use mathlib.Core.Path.{◌≡◌}
use Rattle.stored_spec.proofs.StoredCells.{cells_to, row_sum, bytes_fit}
use Rattle.stored.specs.Walks.{begun}
use Rattle.stored.proofs.rows.rows_formed.Given as goal

abbrev pub invariant-loop-i : goal.invariant-loop-i
invariant-loop-i g l =
    (l.walk ≡ begun l.records l.i) × (l.at ≡ row_sum (cells_to l.records l.i)) × (bytes_fit g.row.SIZE l.rows (cells_to l.records l.i) ≡ true)
