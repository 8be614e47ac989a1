-- `sheet::lines::mark_kind` meets its contract.
-- Assumes nothing.
use mathlib.Core.Path.{refl, ◌∙◌}
use Rattle.sheet.specs.Planes.{kind_array}
use Rattle.sheet.proofs.lines.mark_kind.Goals as goal

pub returns : goal.returns
unfolding kind_array
returns c = c.mark.ensures ∙ rw (c.load_byte.ensures, c.count.ensures.0) refl
