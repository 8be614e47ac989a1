-- `reduction::packed::halves` meets its contract.
-- Assumes nothing.
use mathlib.Core.Path.{◌≡◌}
use Prim.Native.Nat.{◌/◌, ◌%◌}
use lib.ListN.{get_or}
use Rattle.laws.specs.Lists.{puts}
use Rattle.reduction.specs.Packed.{half}
use Rattle.reduction.proofs.packed.halves.Given as goal

abbrev pub invariant-loop-q : goal.invariant-loop-q
invariant-loop-q l = l.to ≡ puts l.q (λ q. half l.s (get_or l.from (q / 2) 0) (q % 2)) l.initial.to
