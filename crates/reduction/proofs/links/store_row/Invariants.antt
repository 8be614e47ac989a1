-- `reduction::links::store_row` meets its contract.
-- Assumes nothing.
use mathlib.Core.Path.{◌≡◌}
use lib.ListN.{get_or}
use Rattle.laws.specs.Lists.{puts_at}
use Rattle.laws.specs.Bits.{marks}
use Rattle.reduction.proofs.links.store_row.Given as goal

abbrev pub invariant-loop-d : goal.invariant-loop-d
invariant-loop-d l = (l.left ≡ marks 0 (λ d. get_or l.row d 0) l.d) × (l.link ≡ puts_at l.from l.d (λ d. get_or l.row d 0) l.initial.link)
