-- `bank::admitting::copy_at` meets its contract.
-- Assumes nothing.
use mathlib.Core.Path.{◌≡◌}
use lib.ListN.{get_or}
use Rattle.laws.specs.Lists.{puts_at}
use Rattle.bank.proofs.admitting.copy_at.Given as goal

abbrev pub invariant-loop-i : goal.invariant-loop-i
invariant-loop-i l = l.to ≡ puts_at l.at l.i (λ k. get_or l.from k 0) l.initial.to
