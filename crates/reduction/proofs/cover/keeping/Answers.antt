-- `reduction::cover::keeping` meets its contract.
-- Assumes nothing.
use mathlib.Core.Path.{sym}
use borrow.Author.Tests.{eq-eqb, ne_eqb}
use lib.Dec.{eqb}
use Rattle.laws.proofs.Cases.{cond_yes, cond_no}
use Rattle.reduction.specs.RunningKeys.{gone, keeping}
use Rattle.reduction.proofs.cover.keeping.Goals as goal

pub returns-then-x-eq1 : goal.returns-then-x-eq1
unfolding keeping
returns-then-x-eq1 c =
    let a = c.args in
    sym (cond_yes (eqb a.x 1) a.k gone (eq-eqb a.x 1 c.if-x-eq1.true))

pub returns : goal.returns
unfolding keeping
returns c =
    let a = c.args in
    sym (cond_no (eqb a.x 1) a.k gone (ne_eqb a.x 1 c.if-x-eq1.false))
