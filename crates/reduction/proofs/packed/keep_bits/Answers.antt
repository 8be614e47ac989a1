-- `reduction::packed::keep_bits` meets its contract.
-- Assumes nothing.
use mathlib.Core.Path.{refl, sym}
use lib.Bits.{bit_and}
use lib.ListN.{get_or}
use Rattle.laws.proofs.Puts.{puts_none, puts-next}
use Rattle.reduction.proofs.packed.keep_bits.Goals as goal

pub loop-i-init : goal.loop-i-init
loop-i-init c = sym (puts_none (λ i. bit_and (get_or c.args.from.now i 0) c.args.mask) c.args.to.now)

pub loop-i-preserved : goal.loop-i-preserved
loop-i-preserved c =
    let l = c.loop-i in
    let a = c.args in
    puts-next (λ i. bit_and (get_or a.from.now i 0) a.mask) l.i a.to.now l.to _ l.invariant refl
