-- `find_place` finds where cell k lies.
-- Assumes nothing.
use mathlib.Core.Path.{◌≡◌}
use Prim.Native.Nat.{◌≤◌, ◌-◌, ◌*◌}
use lib.ListN.{length}
use Rattle.stored_spec.proofs.StoredCells.{cells_to, row_sum}
use Rattle.stored.specs.Walks.{begun}
use Rattle.stored.proofs.CellPlaces.{variable_sum}
use Rattle.stored.proofs.places.find_place.Given as goal

abbrev pub invariant-loop-i : goal.invariant-loop-i
invariant-loop-i l =
    (l.walk ≡ begun l.records l.i) × (l.top ≡ l.count - variable_sum (cells_to l.records l.i)) × (l.at ≡ row_sum (cells_to l.records l.i))
    × (l.at ≤ l.i * 4096) × (length (cells_to l.records l.i) ≤ l.k)
