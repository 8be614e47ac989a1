-- `sheet::lines::write` meets its contract.
-- Assumes nothing.
use mathlib.Core.Path.{refl, ◌∙◌}
use Rattle.sheet.specs.Planes.{output_array}
use Rattle.sheet.proofs.lines.write.Goals as goal

pub returns : goal.returns
unfolding output_array
returns c =
    c.write_lines.ensures ∙ rw c.list_of.ensures refl
