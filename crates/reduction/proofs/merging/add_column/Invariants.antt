-- `reduction::merging::add_column` meets its contract.
-- Assumes nothing.
use mathlib.Core.Path.{◌≡◌}
use Prim.Native.Nat.{◌+◌}
use lib.Bits.{bit_or}
use lib.ListN.{get_or}
use Rattle.laws.specs.Lists.{puts_at}
use Rattle.reduction.proofs.merging.add_column.Given as goal

abbrev pub invariant-loop-i : goal.invariant-loop-i
invariant-loop-i l = l.to ≡ puts_at l.number l.i (λ i. bit_or (get_or l.initial.to (l.number + i) 0) (get_or l.from (l.first + i) 0)) l.initial.to
