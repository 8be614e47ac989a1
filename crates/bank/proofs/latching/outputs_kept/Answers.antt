-- `bank::latching::outputs_kept` meets its contract.
-- Assumes nothing.
use mathlib.Core.Path.{◌≡◌, refl, sym, ◌∙◌}
use native.Mathlib.Omega.{arith}
use Rattle.laws.proofs.Puts.{puts_none, puts-next, puts_whole}
use Rattle.bank.proofs.latching.LatchCases.{output_in, outputs-all}
use Rattle.bank.proofs.latching.outputs_kept.Goals as goal

pub loop-i-init : goal.loop-i-init
loop-i-init c = let a = c.args in sym (puts_none (output_in a.blocks.bank.now a.number a.old.now) _)

pub loop-i-preserved : goal.loop-i-preserved
loop-i-preserved c =
    let l = c.loop-i in
    let a = c.args in
    puts-next (output_in a.blocks.bank.now a.number a.old.now) l.i _ _ _ l.invariant c.output_kept.ensures

pub returns : goal.returns
returns c =
    let l = c.loop-i in
    let e : l.i ≡ 64 = omega arith in
    let a = c.args in
    rw e at l.invariant ∙ puts_whole (output_in a.blocks.bank.now a.number a.old.now) 64 _ refl ∙ outputs-all a.blocks.bank.now a.number a.old.now
