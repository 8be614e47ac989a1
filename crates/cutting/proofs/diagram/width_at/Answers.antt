-- `cutting::diagram::width_at` meets its contract.
-- Assumes nothing.
use mathlib.Core.Path.{sym, ◌∙◌}
use borrow.Author.Tests.{lt-ltb, le-ltb}
use lib.Dec.{ltb}
use lib.ListN.{get_or}
use Rattle.laws.proofs.Cases.{cond_yes, cond_no}
use Rattle.cutting.specs.Plan.{width_up}
use native.Mathlib.Omega.{arith}
use lib.ListN.{length}
use Rattle.cutting.proofs.diagram.width_at.Goals as goal

pub returns-then-h-diagram : goal.returns-then-h-diagram
unfolding width_up
returns-then-h-diagram c =
    let a = c.args in
    c.from.ensures
    ∙ sym (cond_yes (ltb a.h (length a.diagram.now.order.now)) (get_or a.diagram.now.widths.now a.h 0) 1 (lt-ltb a.h (length a.diagram.now.order.now) c.if-h-diagram.true))

pub returns : goal.returns
unfolding width_up
returns c =
    let a = c.args in
    sym (cond_no (ltb a.h (length a.diagram.now.order.now)) (get_or a.diagram.now.widths.now a.h 0) 1 (le-ltb a.h (length a.diagram.now.order.now) (omega (arith, c.if-h-diagram.false))))
