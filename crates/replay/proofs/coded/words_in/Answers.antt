-- `replay::coded::words_in` meets its contract.
-- Assumes nothing.
use mathlib.Core.Path.{◌≡◌, ◌∙◌, refl}
use mathlib.Core.List.{append-nil}
use Prim.Native.Nat.{◌+◌, ◌*◌}
use native.Mathlib.Omega.{arith}
use Rattle.laws.proofs.Filled.{filled_more}
use Rattle.replay.specs.Coded.{pair}
use Rattle.replay.proofs.coded.words_in.Goals as goal

pub loop-b-init : goal.loop-b-init
loop-b-init c = refl

pub loop-b-preserved : goal.loop-b-preserved
loop-b-preserved c =
    let l = c.loop-b in
    let a = c.args in
    rw l.invariant (filled_more (λ k. pair a.list.now (1 + 2 * k)) l.b _ _ c.word_at.ensures (omega arith))

pub returns : goal.returns
returns c =
    let l = c.loop-b in
    let e : l.b ≡ 8 = omega arith in
    rw e at l.invariant ∙ append-nil _
