-- `reduction::merging::children` meets its contract.
-- Assumes nothing.
use mathlib.Core.Path.{◌≡◌}
use Rattle.laws.specs.Lists.{puts}
use lib.ListN.{get_or}
use Rattle.reduction.proofs.merging.children.Given as goal

abbrev pub invariant-loop-q : goal.invariant-loop-q
invariant-loop-q l = l.below ≡ puts l.q (λ q. get_or l.nums (get_or l.numbers q 0) 0) l.initial.below
