-- `count_outputs` counts the outputs of a cell.
-- Assumes nothing.
use mathlib.Core.Path.{◌≡◌}
use lib.ListN.{length}
use Rattle.stored_spec.proofs.StoredCells.{cells_to}
use Rattle.stored.proofs.CellReads.{part_to}
use Rattle.stored.proofs.reads.count_outputs.Given as goal

abbrev pub invariant-loop-i : goal.invariant-loop-i
invariant-loop-i l =
    (l.cell ≡ length (cells_to l.records l.i)) × (l.n ≡ length (part_to l.records l.i l.k).outs)
