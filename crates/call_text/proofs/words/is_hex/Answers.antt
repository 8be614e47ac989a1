-- `words::is_hex` meets its contract.
-- Assumes nothing.
use mathlib.Core.Path.{◌∙◌, ap}
use Rattle.call_text.specs.Words.{is_hex}
use Rattle.std.specs.Char.{is_ascii_hexdigit}
use Rattle.call_text.proofs.Scans.{ascii_sixteen}
use Rattle.call_text.proofs.words.is_hex.Goals as goal

pub returns : goal.returns
unfolding is_hex
returns c = c.is_ascii_hexdigit.ensures.value ∙ ap is_ascii_hexdigit c.byte_at.ensures ∙ ascii_sixteen _
