-- `find_rails` finds the rails of a cell.
-- Assumes nothing.
use mathlib.Core.Path.{◌≡◌}
use Prim.Native.Nat.{◌≤◌}
use lib.ListN.{length}
use Rattle.stored_spec.proofs.StoredCells.{cells_to}
use Rattle.stored.specs.Walks.{begun}
use Rattle.stored.proofs.reads.find_rails.Given as goal

abbrev pub invariant-loop-i : goal.invariant-loop-i
invariant-loop-i l = (l.walk ≡ begun l.records l.i) × (length (cells_to l.records l.i) ≤ l.k)
