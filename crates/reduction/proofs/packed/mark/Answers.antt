-- `reduction::packed::mark` meets its contract.
-- Assumes nothing.
use mathlib.Core.Path.{sym}
use borrow.Author.Tests.{eq-eqb}
use lib.Dec.{eqb}
use Rattle.laws.proofs.Cases.{cond_yes}
use Rattle.reduction.proofs.packed.mark.Goals as goal

pub returns-then-x-v : goal.returns-then-x-v
returns-then-x-v c = let a = c.args in sym (cond_yes (eqb a.x a.v) a.bit 0 (eq-eqb a.x a.v c.if-x-v.true))
