-- `sheet::planes::mark_some` meets its contract.
-- Assumes nothing.
use mathlib.Core.Path.{◌≡◌}
use lib.ListN.{get_or}
use Rattle.laws.specs.Lists.{puts}
use Rattle.sheet.specs.Planes.{some_added}
use Rattle.laws.specs.Bits.{marks}
use Rattle.sheet.proofs.planes.mark_some.Given as goal

abbrev pub invariant-loop-r : goal.invariant-loop-r
invariant-loop-r g l =
    l.plane ≡ puts g.row.N (λ x. marks (get_or l.initial.plane x 0) (some_added l.upper l.tests.masks l.tests.values l.forces x) l.r) l.initial.plane
