-- `reduction::merging::apart` meets its contract.
-- Assumes nothing.
use mathlib.Core.Path.{refl, sym}
use Rattle.laws.proofs.Puts.{puts_none, puts-next}
use Rattle.reduction.proofs.merging.apart.Goals as goal

pub loop-c-init : goal.loop-c-init
loop-c-init c = sym (puts_none (λ c. c) c.args.owner.now)

pub loop-c-preserved : goal.loop-c-preserved
loop-c-preserved c =
    let l = c.loop-c in
    let a = c.args in
    puts-next (λ c. c) l.c a.owner.now l.owner _ l.invariant refl
