-- `reduction::packed::halves` meets its contract.
-- Assumes nothing.
use mathlib.Core.Path.{sym}
use Prim.Native.Nat.{◌/◌, ◌%◌}
use lib.ListN.{get_or}
use Rattle.laws.proofs.Puts.{puts_none, puts-next}
use Rattle.reduction.specs.Packed.{half}
use Rattle.reduction.proofs.packed.halves.Goals as goal

pub loop-q-init : goal.loop-q-init
loop-q-init c = sym (puts_none (λ q. half c.args.s (get_or c.args.from.now (q / 2) 0) (q % 2)) c.args.to.now)

pub loop-q-preserved : goal.loop-q-preserved
loop-q-preserved c =
    let l = c.loop-q in
    let a = c.args in
    puts-next (λ q. half a.s (get_or a.from.now (q / 2) 0) (q % 2)) l.q a.to.now l.to _ l.invariant c.half.ensures
