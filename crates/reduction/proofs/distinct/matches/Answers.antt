-- `reduction::distinct::matches` meets its contract.
-- Assumes nothing.
use mathlib.Core.Path.{◌≡◌}
use mathlib.Core.Bool.{true}
use lib.Dec.{eqb}
use borrow.Author.Tests.{eq-eqb}
use Rattle.reduction.proofs.distinct.matches.Goals as goal

pub returns-then-key-k : goal.returns-then-key-k
returns-then-key-k c =
    let a = c.args in
    let e : eqb a.key a.k ≡ true = eq-eqb a.key a.k c.if-key-k.true in
    rw e c.same_at.ensures
