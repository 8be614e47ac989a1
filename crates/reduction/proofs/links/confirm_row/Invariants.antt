-- `reduction::links::confirm_row` meets its contract.
-- Assumes nothing.
use mathlib.Core.Path.{◌≡◌}
use lib.ListN.{get_or}
use Rattle.laws.specs.Lists.{puts}
use Rattle.reduction.specs.FirstBytes.{confirmed}
use Rattle.reduction.proofs.links.confirm_row.Given as goal

abbrev pub invariant-loop-d : goal.invariant-loop-d
invariant-loop-d l = l.row ≡ puts l.d (λ d. confirmed l.planes.zero l.planes.one l.size (get_or l.initial.row d 0) (get_or l.firsts l.c 0) (get_or l.firsts d 0)) l.initial.row
