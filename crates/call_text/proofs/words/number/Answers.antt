-- `words::number` meets its contract.
-- Assumes nothing.
use mathlib.Core.Path.{◌∙◌}
use Rattle.call_text.proofs.Scans.{number_ten}
use Rattle.call_text.proofs.words.number.Goals as goal

pub returns : goal.returns
returns c = c.number_in.ensures ∙ number_ten c.args.text.now
