-- `reduction::cover::keep` meets its contract.
-- Assumes nothing.
use mathlib.Core.Path.{◌≡◌}
use Prim.Native.Nat.{◌+◌}
use lib.ListN.{get_or}
use Rattle.laws.specs.Lists.{puts}
use Rattle.reduction.specs.RunningKeys.{keeping}
use Rattle.reduction.proofs.cover.keep.Given as goal

abbrev pub invariant-loop-d : goal.invariant-loop-d
invariant-loop-d l = l.cand ≡ puts l.d (λ i. keeping (get_or l.link (l.base + i) 0) (get_or l.initial.cand i 0)) l.initial.cand
