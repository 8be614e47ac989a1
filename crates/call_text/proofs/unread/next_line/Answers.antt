-- `unread::next_line` meets its contract.
-- Assumes nothing.
use native.Mathlib.Omega.{arith}
use Rattle.call_text.proofs.CallLaws.{rest-long}
use Rattle.call_text.proofs.LineLaws.{end_found}
use Rattle.call_text.proofs.UnreadLaws.{next-line, last_line}
use Rattle.call_text.proofs.unread.next_line.Goals as goal

pub overflow_add-end : goal.overflow_add-end
overflow_add-end c =
    let long = rest-long c.args.at c.args.text.now in
    omega (arith, c.byte_in.ensures.1, c.requires)

pub returns-then-end-text : goal.returns-then-end-text
returns-then-end-text c =
    let text = c.args.text.now in
    (next-line text c.args.at c.byte_in.result (end_found text c.args.at c.byte_in.result c.byte_in.ensures.0), omega (arith, c.if-end-text.true))

pub returns : goal.returns
returns c =
    let text = c.args.text.now in
    (last_line text c.args.at c.byte_in.result (end_found text c.args.at c.byte_in.result c.byte_in.ensures.0) c.if-end-text.false, omega arith)
