-- `store_outputs` sets the outputs of a cell.
-- Assumes nothing.
use mathlib.Core.Path.{◌≡◌}
use Prim.Native.Nat.{◌+◌, ◌/◌, ◌^◌}
use lib.ListN.{length}
use Rattle.stored_spec.specs.Run.{set_outputs}
use Rattle.stored_spec.proofs.StoredCells.{cells_to}
use Rattle.stored.proofs.CellReads.{part_to}
use Rattle.stored.proofs.reads.store_outputs.Given as goal

abbrev pub invariant-loop-i : goal.invariant-loop-i
invariant-loop-i l =
    (l.cell ≡ length (cells_to l.records l.i)) × (l.e + length (part_to l.records l.i l.k).outs ≡ l.first)
    × (l.outputs ≡ set_outputs l.initial.outputs (part_to l.records l.i l.k).outs (l.row / 2 ^ l.e))
