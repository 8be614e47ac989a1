-- `sheet::planes::mark_record` meets its contract.
-- Assumes nothing.
use mathlib.Core.Path.{◌≡◌}
use Prim.Native.Nat.{◌*◌}
use Rattle.laws.specs.Lists.{puts}
use Rattle.sheet.proofs.planes.PlaceBlocks.{marked}
use Rattle.sheet.proofs.planes.mark_record.Given as goal

abbrev pub invariant-loop-b : goal.invariant-loop-b
invariant-loop-b g l = l.plane ≡ puts (l.b * 256) (marked l.initial.plane l.k l.v l.f) l.initial.plane
