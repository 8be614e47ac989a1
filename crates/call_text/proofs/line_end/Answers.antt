-- `call_text::line_end` meets its contract.
-- Assumes nothing.
use Rattle.call_text.proofs.LineLaws.{line-ended}
use Rattle.call_text.proofs.line_end.Goals as goal

pub returns : goal.returns
returns c = line-ended c.args.text.now _ c.byte_in.ensures.0
