-- `sheet::planes::spread` meets its contract.
-- Assumes nothing.
use mathlib.Core.Path.{◌≡◌}
use Prim.Native.Nat.{◌*◌, ◌%◌}
use lib.Bits.{bit_or}
use lib.ListN.{get_or}
use Rattle.laws.specs.Lists.{puts}
use Rattle.sheet.proofs.planes.spread.Given as goal

abbrev pub invariant-loop-b : goal.invariant-loop-b
invariant-loop-b l = l.plane ≡ puts (l.b * 256) (λ x. bit_or (get_or l.initial.plane x 0) (get_or l.row (x % 256) 0)) l.initial.plane
