-- `sheet::lines::fill_planes` meets its contract.
-- Assumes nothing.
use mathlib.Core.Path.{refl, ◌∙◌}
use Rattle.sheet.proofs.lines.fill_planes.Goals as goal

pub returns : goal.returns
returns c = record {
  zeros_after = c.plane_of.ensures ∙ rw (c.number_field.ensures, c.number_field-2.ensures) refl;
  ones_after = c.plane_of-2.ensures ∙ rw (c.number_field.ensures, c.number_field-2.ensures) refl;
}
