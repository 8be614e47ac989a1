-- `evaluation::cells::more_fillings` meets its contract.
-- Assumes nothing.
use mathlib.Core.Path.{sym}
use borrow.Author.Tests.{eq-eqb, ne_eqb}
use Rattle.laws.proofs.Cases.{cond_yes, cond_no}
use Rattle.evaluation.specs.BegunCell.{more_fillings}
use Rattle.evaluation.proofs.cells.more_fillings.Goals as goal

pub returns-then-known-eq1 : goal.returns-then-known-eq1
unfolding more_fillings
returns-then-known-eq1 c = sym (cond_yes _ _ _ (eq-eqb c.args.known 1 c.if-known-eq1.true))

pub returns : goal.returns
unfolding more_fillings
returns c = sym (cond_no _ _ _ (ne_eqb c.args.known 1 c.if-known-eq1.false))
