-- `reduction::node_words::first_node` meets its contract.
-- Assumes nothing.
use mathlib.Core.Path.{sym}
use Prim.Native.Nat.{◌+◌}
use native.Mathlib.Omega.{arith}
use borrow.Author.Tests.{eq-eqb}
use lib.Dec.{eqb}
use Rattle.laws.proofs.Cases.{cond_yes}
use Rattle.reduction.proofs.node_words.first_node.Goals as goal

pub returns-then-height-eq0 : goal.returns-then-height-eq0
returns-then-height-eq0 c = let a = c.args in (sym (cond_yes (eqb a.height 0) 1 (2 + a.count) (eq-eqb a.height 0 c.if-height-eq0.true)), omega arith)
