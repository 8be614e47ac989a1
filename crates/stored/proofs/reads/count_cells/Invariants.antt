-- `count_cells` counts the cells of any records.
-- Assumes nothing.
use mathlib.Core.Path.{◌≡◌}
use lib.ListN.{length}
use Rattle.stored_spec.proofs.StoredCells.{cells_to}
use Rattle.stored.proofs.reads.count_cells.Given as goal

abbrev pub invariant-loop-i : goal.invariant-loop-i
invariant-loop-i l =
    l.cells ≡ length (cells_to l.records l.i)
