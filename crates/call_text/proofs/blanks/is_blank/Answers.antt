-- `blanks::is_blank` meets its contract.
-- Assumes nothing.
use mathlib.Core.Path.{refl}
use Rattle.call_text.specs.Tidy.{is_blank}
use Rattle.call_text.proofs.blanks.is_blank.Goals as goal

pub returns : goal.returns
unfolding is_blank
returns c = refl
