-- `reduction::cover::first_keys` meets its contract.
-- Assumes nothing.
use mathlib.Core.Path.{◌≡◌}
use Rattle.laws.specs.Lists.{puts}
use Rattle.reduction.specs.RunningKeys.{first_key}
use Rattle.reduction.proofs.cover.first_keys.Given as goal

abbrev pub invariant-loop-c : goal.invariant-loop-c
invariant-loop-c l = l.keys ≡ puts l.c (first_key l.w l.link) l.initial.keys
