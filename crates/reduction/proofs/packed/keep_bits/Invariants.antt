-- `reduction::packed::keep_bits` meets its contract.
-- Assumes nothing.
use mathlib.Core.Path.{◌≡◌}
use lib.Bits.{bit_and}
use lib.ListN.{get_or}
use Rattle.laws.specs.Lists.{puts}
use Rattle.reduction.proofs.packed.keep_bits.Given as goal

abbrev pub invariant-loop-i : goal.invariant-loop-i
invariant-loop-i l = l.to ≡ puts l.i (λ i. bit_and (get_or l.from i 0) l.mask) l.initial.to
