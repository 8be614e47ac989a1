-- `cutting::diagram::first_node` meets its contract.
-- Assumes nothing.
use mathlib.Core.Path.{◌≡◌, sym, ◌∙◌, ap}
use Prim.Native.Nat.{ℕ, ◌+◌, ◌-◌}
use borrow.Author.Tests.{eq-eqb, ne_eqb}
use lib.Dec.{eqb}
use Rattle.laws.specs.Tests.{sum}
use Rattle.laws.proofs.Cases.{cond_yes, cond_no}
use Rattle.laws.proofs.Counts.{sum-next}
use Rattle.cutting.specs.Plan.{width_up, first_in}
use native.Mathlib.Omega.{arith}
use lib.ListN.{length}
use Rattle.cutting.proofs.diagram.first_node.Goals as goal

pub returns-then-h-eq0 : goal.returns-then-h-eq0
unfolding first_in
returns-then-h-eq0 c =
    let a = c.args in
    let f : ℕ → ℕ = λ k. width_up (length a.diagram.now.order.now) a.diagram.now.widths.now ((length a.diagram.now.order.now) - k) in
    (sym (cond_yes (eqb a.h 0) 1 (2 + sum ((length a.diagram.now.order.now) - a.h) f) (eq-eqb a.h 0 c.if-h-eq0.true)), omega arith)

pub loop-i-preserved : goal.loop-i-preserved
loop-i-preserved c =
    let l = c.loop-i in
    let a = c.args in
    let f : ℕ → ℕ = λ k. width_up (length a.diagram.now.order.now) a.diagram.now.widths.now ((length a.diagram.now.order.now) - k) in
    let few = a.diagram.now.columns ((length a.diagram.now.order.now) - l.i) (omega arith) in
    (omega (arith, l.invariant.0, sum-next f l.i, c.width_at-first.ensures), omega (arith, few, c.width_at-first.ensures))

pub returns : goal.returns
unfolding first_in
returns c =
    let l = c.loop-i in
    let a = c.args in
    let f : ℕ → ℕ = λ k. width_up (length a.diagram.now.order.now) a.diagram.now.widths.now ((length a.diagram.now.order.now) - k) in
    let e : l.i ≡ (length a.diagram.now.order.now) - a.h = omega arith in
    let no = ne_eqb a.h 0 c.if-h-eq0.false in
    (l.invariant.0 ∙ ap (λ (k : ℕ). 2 + sum k f) e ∙ sym (cond_no (eqb a.h 0) 1 (2 + sum ((length a.diagram.now.order.now) - a.h) f) no), omega arith)
