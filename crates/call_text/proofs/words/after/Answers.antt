-- `words::after` meets its contract.
-- Assumes nothing.
use Rattle.call_text.proofs.Scans.{after_word}
use Rattle.call_text.proofs.words.after.Goals as goal

pub returns : goal.returns
returns c = after_word c.args.word.now c.args.text.now c.requires c.strip_prefix.result c.strip_prefix.ensures.cases
