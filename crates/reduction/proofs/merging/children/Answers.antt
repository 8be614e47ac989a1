-- `reduction::merging::children` meets its contract.
-- Assumes nothing.
use mathlib.Core.Path.{ap, sym}
use Prim.Native.Nat.{ℕ}
use Rattle.laws.proofs.Puts.{puts_none, puts-next}
use lib.ListN.{get_or}
use Rattle.reduction.proofs.merging.children.Goals as goal

pub loop-q-init : goal.loop-q-init
loop-q-init c = let a = c.args in sym (puts_none (λ q. get_or a.nums.now (get_or a.numbers.now q 0) 0) a.below.now)

pub loop-q-preserved : goal.loop-q-preserved
loop-q-preserved c =
    let l = c.loop-q in
    let a = c.args in
    let e = c.from.ensures in puts-next (λ q. get_or a.nums.now (get_or a.numbers.now q 0) 0) l.q a.below.now l.below _ l.invariant
    (ap (λ (g : ℕ). get_or a.nums.now g 0) e)
