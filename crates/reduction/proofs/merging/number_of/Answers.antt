-- `reduction::merging::number_of` meets its contract.
-- Assumes nothing.
use mathlib.Core.Path.{sym}
use Prim.Native.Nat.{◌-◌}
use borrow.Author.Tests.{eq-eqb}
use lib.Dec.{eqb}
use Rattle.laws.proofs.Cases.{cond_yes}
use Rattle.reduction.proofs.merging.number_of.Goals as goal

pub returns-then-s-eq0 : goal.returns-then-s-eq0
returns-then-s-eq0 c = let a = c.args in sym (cond_yes (eqb a.s 0) a.count (a.s - 1) (eq-eqb a.s 0 c.if-s-eq0.true))
