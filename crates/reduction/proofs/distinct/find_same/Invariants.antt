-- `reduction::distinct::find_same` meets its contract.
-- Assumes nothing.
use mathlib.Core.Path.{◌≡◌}
use Prim.Native.Nat.{◌-◌}
use Rattle.laws.specs.Tests.{find, least}
use Rattle.reduction.specs.ColumnHashes.{is_kept}
use Rattle.reduction.proofs.distinct.find_same.Given as goal

abbrev pub invariant-loop-c : goal.invariant-loop-c
invariant-loop-c l = find (is_kept l.planes.zero l.planes.one l.size l.keys l.kept l.q l.k) (l.count - l.c) l.c ≡ least l.count (is_kept l.planes.zero l.planes.one l.size l.keys l.kept l.q l.k)
