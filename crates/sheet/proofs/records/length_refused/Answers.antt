-- `length_refused` is refusal 3's test.
-- Assumes nothing.
use borrow.Author.Tests.{eq-eqb, ne_eqb}
use Rattle.sheet_spec.specs.Refusals.{refuse3}
use Rattle.sheet.proofs.records.length_refused.Goals as goal

pub returns-then-sheet-ne0 : goal.returns-then-sheet-ne0
unfolding refuse3
returns-then-sheet-ne0 c = rw (ne_eqb _ _ c.if-sheet-ne0.true)

pub returns-else-sheet-ne0 : goal.returns-else-sheet-ne0
unfolding refuse3
returns-else-sheet-ne0 c = rw (eq-eqb _ _ c.if-sheet-ne0.false)
