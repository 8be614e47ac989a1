-- `unread::line_place` meets its contract.
-- Assumes nothing.
use mathlib.Core.Path.{◌≡◌, ◌∙◌, ap}
use Prim.Native.Nat.{ℕ}
use native.Mathlib.Omega.{arith}
use Rattle.call_text.specs.Wanted.{lines_after}
use Rattle.call_text.proofs.UnreadLaws.{lines_start, lines_next}
use Rattle.call_text.proofs.unread.line_place.Goals as goal

pub loop-i-init : goal.loop-i-init
loop-i-init c = (lines_start c.args.text.now, omega arith, omega arith)

pub loop-i-preserved : goal.loop-i-preserved
loop-i-preserved c =
    let l = c.loop-i in
    let text = c.args.text.now in
    (lines_next text l.at c.next_line-at.result l.i l.invariant.0 c.next_line-at.ensures.0, c.next_line-at.ensures.1, omega arith)

pub returns : goal.returns
returns c =
    let l = c.loop-i in
    let a = c.args in
    let e : l.i ≡ a.n = omega (arith, c.loop-i-test.false, l.invariant.2) in
    (l.invariant.0 ∙ ap (λ (k : ℕ). lines_after k a.text.now) e, l.invariant.1)
