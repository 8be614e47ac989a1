-- `reduction::links::raise` meets its contract.
-- Assumes nothing.
use mathlib.Core.Path.{refl, sym}
use Rattle.laws.proofs.Puts.{puts_none, puts-next}
use Rattle.reduction.proofs.links.raise.Goals as goal

pub loop-d-init : goal.loop-d-init
loop-d-init c = sym (puts_none (λ _. 1) c.args.row.now)

pub loop-d-preserved : goal.loop-d-preserved
loop-d-preserved c =
    let l = c.loop-d in
    puts-next (λ _. 1) l.d c.args.row.now l.row 1 l.invariant refl
