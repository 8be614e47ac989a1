-- `sheet::lines::number_field` meets its contract.
-- Assumes nothing.
use mathlib.Core.Path.{refl, ◌∙◌}
use Rattle.sheet.specs.Planes.{number_array, field_array}
use Rattle.sheet.proofs.lines.number_field.Goals as goal

pub returns : goal.returns
unfolding number_array field_array
returns c =
    c.number_words.ensures ∙ rw (c.requires.2, c.load.ensures) refl
