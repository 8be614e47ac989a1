-- `call_text::lines::is_word_byte` meets its contract.
-- Assumes nothing.
use mathlib.Core.Path.{◌∙◌, ap₂}
use mathlib.Core.Bool.{◌&&◌}
use Rattle.call_text.proofs.CallLaws.{word_test}
use Rattle.call_text.proofs.lines.is_word_byte.Goals as goal

pub returns : goal.returns
returns c =
    ap₂ ◌&&◌ c.is_hex.ensures c.is_hex-2.ensures ∙ word_test c.args.rest.now c.args.i _ c.word_place-place.ensures.0
