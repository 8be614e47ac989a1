-- `walks::descent` meets its contract.
-- Assumes nothing.
use mathlib.Core.Path.{sym}
use borrow.Author.Tests.{lt-leb}
use lib.Dec.{leb}
use Rattle.laws.proofs.Cases.{cond_no}
use Rattle.reduction_spec.specs.Descent.{reached, descent}
use Rattle.reduction_spec.proofs.DescentSteps.{descent-within}
use Rattle.walks.proofs.descent.Goals as goal

pub returns-then-top-le20 : goal.returns-then-top-le20
returns-then-top-le20 c =
    let a = c.args in
    descent-within a.words.now a.order.now a.top a.bottom a.node a.inputs a.count
    c.saturating_sub.result c.descend.result c.if-top-le20.true c.saturating_sub.ensures c.descend.ensures

pub returns : goal.returns
unfolding descent
returns c =
    let a = c.args in
    sym (cond_no (leb a.top 20) _ (reached a.node 0) (lt-leb a.top 20 c.if-top-le20.false))
