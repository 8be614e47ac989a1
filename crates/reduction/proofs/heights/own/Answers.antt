-- `reduction::heights::own` meets its contract.
-- Assumes nothing.
use mathlib.Core.Path.{sym, ◌∙◌}
use Rattle.laws.proofs.Cases.{cond_yes, cond_no}
use Rattle.reduction.proofs.heights.own.Goals as goal

pub returns-then-linked : goal.returns-then-linked
returns-then-linked c = let a = c.args in c.cover.ensures ∙ sym (cond_yes a.linked _ _ c.if-linked.true)

pub returns : goal.returns
returns c = let a = c.args in c.apart.ensures ∙ sym (cond_no a.linked _ _ c.if-linked.false)
