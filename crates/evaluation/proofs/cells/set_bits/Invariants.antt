-- `evaluation::cells::set_bits` sets the outputs of a cell.
-- Assumes nothing.
use mathlib.Core.Path.{◌≡◌}
use mathlib.Core.List.{List}
use Prim.Native.Nat.{ℕ}
use lib.ListN.{length}
use Rattle.evaluation.specs.Answer.{told_by}
use Rattle.evaluation.proofs.cells.CellBits.{SetTo, set_to}
use Rattle.evaluation.proofs.cells.set_bits.Given as goal

abbrev pub invariant-loop-i : goal.invariant-loop-i
invariant-loop-i l =
    SetTo l.records l.last l.first l.e l.i
    × ((some each : List ℕ) → length some ≡ 8 → length each ≡ 8 → l.initial.outputs ≡ told_by some each
    → l.outputs ≡ told_by (set_to l.records l.last some l.seen.some l.e l.i) (set_to l.records l.last each l.seen.each l.e l.i))
