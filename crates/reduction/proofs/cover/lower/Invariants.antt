-- `reduction::cover::lower` meets its contract.
-- Assumes nothing.
use mathlib.Core.Path.{◌≡◌}
use lib.ListN.{get_or}
use Rattle.laws.specs.Lists.{puts}
use Rattle.reduction.specs.RunningKeys.{fewer_by}
use Rattle.reduction.proofs.cover.lower.Given as goal

abbrev pub invariant-loop-c : goal.invariant-loop-c
invariant-loop-c l = l.keys ≡ puts l.c (λ i. fewer_by (get_or l.tally i 0) (get_or l.initial.keys i 0)) l.initial.keys
