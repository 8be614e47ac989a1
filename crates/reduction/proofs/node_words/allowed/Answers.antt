-- `reduction::node_words::allowed` meets its contract.
-- Assumes nothing.
use mathlib.Core.Path.{sym}
use borrow.Author.Tests.{eq-eqb}
use lib.Dec.{eqb}
use Rattle.laws.proofs.Cases.{cond_yes}
use Rattle.reduction.proofs.node_words.allowed.Goals as goal

pub returns-then-v-other : goal.returns-then-v-other
returns-then-v-other c = let a = c.args in sym (cond_yes (eqb a.v a.other) 0 a.next (eq-eqb a.v a.other c.if-v-other.true))
