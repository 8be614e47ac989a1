-- `reduction::merging::clear` meets its contract.
-- Assumes nothing.
use mathlib.Core.Path.{refl, sym}
use Prim.Native.Nat.{ℕ}
use Rattle.laws.proofs.Puts.{puts_none, puts-next}
use Rattle.reduction.proofs.merging.clear.Goals as goal

pub loop-i-init : goal.loop-i-init
loop-i-init c = sym (puts_none (λ (i : ℕ). 0) c.args.plane.now)

pub loop-i-preserved : goal.loop-i-preserved
loop-i-preserved c =
    let l = c.loop-i in
    let a = c.args in
    puts-next (λ (i : ℕ). 0) l.i a.plane.now l.plane _ l.invariant refl
