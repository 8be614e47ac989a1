-- `sheet::planes::move_bit` meets its contract.
-- Assumes nothing.
use mathlib.Core.Path.{◌≡◌}
use Prim.Native.Nat.{◌*◌, ◌^◌}
use lib.Bits.{bit_or}
use lib.ListN.{get_or}
use Rattle.laws.specs.Lists.{puts}
use Rattle.laws.specs.Bits.{bit}
use Rattle.sheet.proofs.planes.move_bit.Given as goal

abbrev pub invariant-loop-r : goal.invariant-loop-r
invariant-loop-r l = l.numbers ≡ puts l.r (λ r. bit_or (get_or l.initial.numbers r 0) (bit (get_or l.words r 0) l.from * 2 ^ l.k)) l.initial.numbers
