-- `reduction::links::agree_at` meets its contract.
-- Assumes nothing.
use mathlib.Core.Path.{◌≡◌, sym, ◌∙◌, ap}
use Prim.Native.Nat.{ℕ}
use borrow.Author.Tests.{eq-eqb, ne_eqb}
use Rattle.laws.specs.Tests.{every}
use Rattle.laws.proofs.Tests.{every_fails}
use Rattle.reduction.specs.Distinct.{agree_words}
use Rattle.laws.proofs.Tests.{every_more}
use Rattle.reduction.proofs.links.LinkRows.{agree_word}
use native.Mathlib.Omega.{arith}
use Rattle.reduction.proofs.links.agree_at.Goals as goal

pub returns-then-planes-a-ne0 : goal.returns-then-planes-a-ne0
unfolding agree_words
returns-then-planes-a-ne0 c =
    let a = c.args in
    let i = c.loop-i.i in
    sym (every_fails (agree_word a.planes.now.zero a.planes.now.one a.size a.p a.q) a.size i (omega arith) (ne_eqb _ 0 c.if-planes-a-ne0.true))

pub loop-i-preserved : goal.loop-i-preserved
loop-i-preserved c =
    let a = c.args in
    let l = c.loop-i in
    every_more (agree_word a.planes.now.zero a.planes.now.one a.size a.p a.q) l.i l.invariant (eq-eqb _ 0 c.if-planes-a-ne0.false)

pub returns : goal.returns
unfolding agree_words
returns c =
    let l = c.loop-i in
    let a = c.args in
    let e : l.i ≡ a.size = omega arith in
    sym l.invariant ∙ ap (λ (n : ℕ). every n (agree_word a.planes.now.zero a.planes.now.one a.size a.p a.q)) e
