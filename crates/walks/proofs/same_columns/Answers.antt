-- `walks::same_columns` meets its contract.
-- Assumes nothing.
use mathlib.Core.Path.{sym, ◌∙◌, ap}
use mathlib.Core.Bool.{Bool, ◌&&◌}
use borrow.Author.Tests.{le-leb, lt-leb}
use Rattle.reduction_spec.specs.Compare.{same_nodes, same_columns}
use Rattle.walks.proofs.same_columns.Goals as goal

pub returns-then-height-le20 : goal.returns-then-height-le20
unfolding same_columns
returns-then-height-le20 c =
    let a = c.args in
    c.same_nodes.ensures
    ∙ sym (ap (λ (b : Bool). b && same_nodes a.words.now a.height a.v a.u) (le-leb a.height 20 c.if-height-le20.true))

pub returns-else-height-le20 : goal.returns-else-height-le20
unfolding same_columns
returns-else-height-le20 c =
    let a = c.args in
    lt-leb a.height 20 c.if-height-le20.false ∙ sym (ap (λ (b : Bool). b && same_nodes a.words.now a.height a.v a.u) (lt-leb a.height 20 c.if-height-le20.false))
