-- `node_table::words::words_for` meets its contract.
-- Assumes nothing.
use mathlib.Core.Path.{sym}
use native.Mathlib.Omega.{arith}
use borrow.Author.Tests.{lt-ltb, le-ltb}
use Rattle.laws.proofs.Cases.{cond_yes, cond_no}
use Rattle.node_table.specs.Nodes.{words_for}
use Rattle.node_table.proofs.words.words_for.Goals as goal

pub returns-then-lent-lt-MOST_NODES : goal.returns-then-lent-lt-MOST_NODES
unfolding words_for
returns-then-lent-lt-MOST_NODES c = (sym (cond_yes _ _ _ (lt-ltb _ _ c.if-lent-lt-MOST_NODES.true)), omega arith)

pub returns : goal.returns
unfolding words_for
returns c = (sym (cond_no _ _ _ (le-ltb _ _ c.if-lent-lt-MOST_NODES.false)), omega arith)
