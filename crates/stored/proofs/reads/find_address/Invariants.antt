-- `find_address` finds the row address in a cell.
-- Assumes nothing.
use mathlib.Core.Path.{◌≡◌}
use Prim.Native.Nat.{◌<◌, ◌+◌, ◌^◌}
use lib.ListN.{length}
use Rattle.stored_spec.specs.Run.{address}
use Rattle.stored_spec.proofs.StoredCells.{cells_to}
use Rattle.stored.proofs.CellReads.{part_to}
use Rattle.stored.proofs.reads.find_address.Given as goal

abbrev pub invariant-loop-i : goal.invariant-loop-i
invariant-loop-i l =
    (l.cell ≡ length (cells_to l.records l.i)) × (l.a ≡ address l.rail (part_to l.records l.i l.k).ins l.word) × (l.a < 2 ^ (l.i + 16))
