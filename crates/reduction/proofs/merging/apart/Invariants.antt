-- `reduction::merging::apart` meets its contract.
-- Assumes nothing.
use mathlib.Core.Path.{◌≡◌}
use Rattle.laws.specs.Lists.{puts}
use Rattle.reduction.proofs.merging.apart.Given as goal

abbrev pub invariant-loop-c : goal.invariant-loop-c
invariant-loop-c l = l.owner ≡ puts l.c (λ c. c) l.initial.owner
