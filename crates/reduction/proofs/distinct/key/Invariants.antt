-- `reduction::distinct::key` meets its contract.
-- Assumes nothing.
use mathlib.Core.Path.{◌≡◌}
use Prim.Native.Nat.{◌*◌}
use Rattle.reduction.specs.ColumnHashes.{stirred_to}
use Rattle.reduction.proofs.distinct.key.Given as goal

abbrev pub invariant-loop-i : goal.invariant-loop-i
invariant-loop-i l = l.k ≡ stirred_to l.planes.zero l.planes.one (l.q * l.size) l.i
