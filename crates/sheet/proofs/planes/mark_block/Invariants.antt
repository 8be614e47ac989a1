-- `sheet::planes::mark_block` meets its contract.
-- Assumes nothing.
use mathlib.Core.Path.{◌≡◌}
use Prim.Native.Nat.{◌+◌}
use lib.Bits.{bit_or}
use lib.ListN.{get_or}
use Rattle.laws.specs.Lists.{puts_at}
use Rattle.sheet.specs.Planes.{added}
use Rattle.sheet.proofs.planes.mark_block.Given as goal

abbrev pub invariant-loop-i : goal.invariant-loop-i
invariant-loop-i g l = l.plane ≡ puts_at l.base l.i (λ i. bit_or (get_or l.initial.plane (l.base + i) 0) (added l.k l.v l.f (get_or l.low.numbers i 0))) l.initial.plane
