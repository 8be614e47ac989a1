-- `sheet::planes::complement` meets its contract.
-- Assumes nothing.
use mathlib.Core.Path.{◌≡◌}
use lib.Bits.{bit_xor}
use lib.ListN.{get_or}
use Rattle.laws.specs.Lists.{puts}
use Rattle.sheet.proofs.planes.complement.Given as goal

abbrev pub invariant-loop-x : goal.invariant-loop-x
invariant-loop-x l = l.plane ≡ puts l.x (λ k. bit_xor (get_or l.initial.plane k 0) 255) l.initial.plane
