-- `not_each_once` is refusal 2's test.
-- Assumes nothing.
use borrow.Author.Tests.{eq-eqb, ne_eqb}
use Rattle.sheet_spec.specs.Refusals.{not_each_once}
use Rattle.sheet.proofs.order.not_each_once.Goals as goal

pub returns-then-order-n : goal.returns-then-order-n
unfolding not_each_once
returns-then-order-n c = rw (ne_eqb _ _ c.if-order-n.true)

pub returns : goal.returns
unfolding not_each_once
returns c = rw (eq-eqb _ _ c.if-order-n.false, ← c.each_once-inputs.ensures, ← c.each_once-outputs.ensures)
