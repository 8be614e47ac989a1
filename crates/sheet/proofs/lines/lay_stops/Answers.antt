-- `sheet::lines::lay_stops` meets its contract.
-- Assumes nothing.
use mathlib.Core.Path.{refl, ◌∙◌}
use Rattle.sheet.specs.Planes.{stops_over}
use Rattle.sheet.proofs.lines.lay_stops.Goals as goal

pub returns : goal.returns
unfolding stops_over
returns c = c.mark_kind-2.ensures ∙ rw (c.complement-2.ensures, c.mark_kind.ensures, c.complement.ensures) refl
