-- `reduction::distinct::same_at_lem` meets its contract.
-- Assumes nothing.
use mathlib.Core.Path.{◌≡◌, sym, ◌∙◌, ap}
use Prim.Native.Nat.{ℕ}
use Rattle.laws.specs.Tests.{every}
use Rattle.laws.proofs.Tests.{every_fails}
use Rattle.reduction.specs.Distinct.{same_words}
use Rattle.reduction.proofs.distinct.ColumnHashes.{same_word, same_word_lem, differ_zero, differ_one}
use Rattle.laws.proofs.Tests.{every_more}
use native.Mathlib.Omega.{arith}
use Rattle.reduction.proofs.distinct.same_at.Goals as goal

pub returns-then-planes-a : goal.returns-then-planes-a
unfolding same_words
returns-then-planes-a c =
    let a = c.args in
    let i = c.loop-i.i in
    sym (every_fails (same_word a.planes.now.zero a.planes.now.one a.size a.p a.q) a.size i (omega arith) (differ_zero a.planes.now.zero a.planes.now.one a.size a.p a.q i c.if-planes-a.true))

pub returns-then-planes-a-2 : goal.returns-then-planes-a-2
unfolding same_words
returns-then-planes-a-2 c =
    let a = c.args in
    let i = c.loop-i.i in
    sym (every_fails (same_word a.planes.now.zero a.planes.now.one a.size a.p a.q) a.size i (omega arith) (differ_one a.planes.now.zero a.planes.now.one a.size a.p a.q i c.if-planes-a-2.true))

pub loop-i-preserved : goal.loop-i-preserved
loop-i-preserved c =
    let a = c.args in
    let l = c.loop-i in
    let f = same_word a.planes.now.zero a.planes.now.one a.size a.p a.q in every_more f l.i l.invariant (same_word_lem a.planes.now.zero a.planes.now.one a.size a.p a.q l.i c.if-planes-a.false c.if-planes-a-2.false)

pub returns : goal.returns
unfolding same_words
returns c =
    let l = c.loop-i in
    let a = c.args in
    let e : l.i ≡ a.size = omega arith in
    sym l.invariant ∙ ap (λ (n : ℕ). every n (same_word a.planes.now.zero a.planes.now.one a.size a.p a.q)) e
