-- `reduction::distinct::same_at_lem` meets its contract.
-- Assumes nothing.
use mathlib.Core.Path.{◌≡◌}
use mathlib.Core.Bool.{true}
use Rattle.laws.specs.Tests.{every}
use Rattle.reduction.proofs.distinct.ColumnHashes.{same_word}
use Rattle.reduction.proofs.distinct.same_at.Given as goal

abbrev pub invariant-loop-i : goal.invariant-loop-i
invariant-loop-i l = every l.i (same_word l.planes.zero l.planes.one l.size l.p l.q) ≡ true
