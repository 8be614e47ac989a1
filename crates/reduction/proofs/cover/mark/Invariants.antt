-- `reduction::cover::mark` meets its contract.
-- Assumes nothing.
use mathlib.Core.Path.{◌≡◌}
use Rattle.reduction.specs.RunningKeys.{gone, stored_for}
use Rattle.reduction.proofs.cover.mark.Given as goal

abbrev pub invariant-loop-i : goal.invariant-loop-i
invariant-loop-i l = (l.keys ≡ stored_for gone l.i l.members l.initial.keys) × (l.owner ≡ stored_for l.g l.i l.members l.initial.owner)
