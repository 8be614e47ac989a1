-- `sheet::depends::across` meets its contract.
-- Assumes nothing.
use mathlib.Core.Path.{◌≡◌}
use Prim.Native.Nat.{◌*◌, ◌^◌}
use Rattle.laws.specs.Bits.{marks}
use Rattle.sheet.specs.Depends.{turned_at}
use Rattle.sheet.proofs.depends.across.Given as goal

abbrev pub invariant-loop-b : goal.invariant-loop-b
invariant-loop-b l = l.d ≡ marks 0 (turned_at l.planes.zeros l.planes.ones l.q) (l.b * 2 ^ l.k)
