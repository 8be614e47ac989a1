-- `sheet::lines::plane_of` meets its contract.
-- Assumes nothing.
use mathlib.Core.Path.{refl, sym, ◌∙◌}
use Rattle.sheet.specs.Planes.{plane_of, ordinary_plane}
use Rattle.sheet.proofs.lines.plane_of.Goals as goal

pub returns-then-any_stop : goal.returns-then-any_stop
unfolding plane_of ordinary_plane
returns-then-any_stop c =
    c.lay_stops.ensures ∙ rw (c.mark_kind.ensures, c.requires.2, sym c.any_stop.ensures ∙ c.if-any_stop.true) refl

pub returns-else-any_stop : goal.returns-else-any_stop
unfolding plane_of ordinary_plane
returns-else-any_stop c =
    c.mark_kind.ensures ∙ rw (c.requires.2, sym c.any_stop.ensures ∙ c.if-any_stop.false) refl
