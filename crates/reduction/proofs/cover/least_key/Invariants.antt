-- `reduction::cover::least_key` meets its contract.
-- Assumes nothing.
use mathlib.Core.Path.{◌≡◌}
use Rattle.reduction.specs.RunningKeys.{least_key}
use Rattle.reduction.proofs.cover.least_key.Given as goal

abbrev pub invariant-loop-i : goal.invariant-loop-i
invariant-loop-i l = l.k ≡ least_key l.keys l.i
