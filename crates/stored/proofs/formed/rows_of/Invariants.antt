-- `rows_of` counts the rows of all cells that fit.
-- Assumes nothing.
use mathlib.Core.Bool.{true}
use Rattle.stored.specs.Walks.{begun}
use Rattle.stored_spec.proofs.StoredCells.{cells_to, fit_all, row_sum}
use mathlib.Core.Path.{◌≡◌}
use Prim.Native.Nat.{◌≤◌, ◌*◌}
use Rattle.stored.proofs.formed.rows_of.Given as goal

abbrev pub invariant-loop-i : goal.invariant-loop-i
invariant-loop-i l =
    (l.walk ≡ begun l.records l.i) × (fit_all l.size (cells_to l.records l.i) ≡ true) × (l.rows ≡ row_sum (cells_to l.records l.i)) × (l.rows ≤ l.i * 4096)
