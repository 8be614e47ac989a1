-- `reduction::cover::lower_by_clique` meets its contract.
-- Assumes nothing.
use mathlib.Core.Path.{◌≡◌}
use Rattle.reduction.proofs.cover.CliqueLeaves.{tallied}
use Rattle.reduction.proofs.cover.lower_by_clique.Given as goal

abbrev pub invariant-loop-i : goal.invariant-loop-i
invariant-loop-i l = l.tally ≡ tallied l.w l.link l.members l.i
