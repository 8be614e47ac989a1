-- `sheet::lines::write_line` meets its contract.
-- Assumes nothing.
use mathlib.Core.Path.{◌≡◌}
use lib.ListN.{get_or}
use Rattle.laws.specs.Lists.{puts_at}
use Rattle.sheet.specs.Planes.{line_value}
use Rattle.sheet.proofs.lines.write_line.Given as goal

abbrev pub invariant-loop-x : goal.invariant-loop-x
invariant-loop-x l = l.table ≡ puts_at l.base l.x (λ x. line_value (get_or l.planes.zeros x 0) (get_or l.planes.ones x 0) l.o) l.initial.table
