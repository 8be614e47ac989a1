-- `call_text::tidy` meets its contract.
-- Assumes nothing.
use Rattle.call_text.proofs.TidyLaws.{tidy_short, tidy_whole}
use Rattle.call_text.proofs.tidy.Goals as goal

pub returns-then-lent-text : goal.returns-then-lent-text
returns-then-lent-text c =
    let a = c.args in
    tidy_short a.text.now a.lent.now c.if-lent-text.true

pub returns : goal.returns
returns c =
    let a = c.args in
    let made = c.tidy_whole in
    tidy_whole a.text.now a.lent.now _ _ c.if-lent-text.false made.ensures.value made.ensures.lent_after
