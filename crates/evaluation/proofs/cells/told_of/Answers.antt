-- `evaluation::cells::told_of` meets its contract.
-- Assumes nothing.
use mathlib.Core.Path.{sym, ◌∙◌}
use borrow.Author.Tests.{eq-eqb, ne_eqb}
use Rattle.laws.proofs.Cases.{cond_yes, cond_no}
use Rattle.evaluation_spec.specs.RailSets.{told_of}
use Rattle.evaluation.proofs.cells.told_of.Goals as goal

pub returns-then-some-eq0 : goal.returns-then-some-eq0
unfolding told_of
returns-then-some-eq0 c = sym (cond_yes _ _ _ (eq-eqb c.args.some 0 c.if-some-eq0.true))

pub returns-then-each-eq1 : goal.returns-then-each-eq1
unfolding told_of
returns-then-each-eq1 c =
    let a = c.args in
    sym (cond_no _ _ _ (ne_eqb a.some 0 c.if-some-eq0.false) ∙ cond_yes _ _ _ (eq-eqb a.each 1 c.if-each-eq1.true))

pub returns : goal.returns
unfolding told_of
returns c =
    let a = c.args in
    sym (cond_no _ _ _ (ne_eqb a.some 0 c.if-some-eq0.false) ∙ cond_no _ _ _ (ne_eqb a.each 1 c.if-each-eq1.false))
