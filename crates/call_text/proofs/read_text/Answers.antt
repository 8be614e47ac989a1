-- `call_text::read_text` meets its contract.
-- Assumes nothing.
use Rattle.call_text.specs.Given.{bad_given}
use Rattle.call_text.proofs.LineLaws.{read_short, read_whole}
use Rattle.call_text.proofs.read_text.Goals as goal

pub returns-then-code-text : goal.returns-then-code-text
returns-then-code-text c =
    let a = c.args in
    record { code_after = read_short a.text.now a.code.now a.first c.if-code-text.true; bad_from = tt }

pub returns : goal.returns
returns c =
    let a = c.args in
    let read = c.read_lines in
    record {
      code_after = read_whole a.text.now a.code.now a.first read.result.size (bad_given read.result.bad) _ c.if-code-text.false read.ensures.size_value read.ensures.code_after;
      bad_from = read.ensures.bad_from;
    }
