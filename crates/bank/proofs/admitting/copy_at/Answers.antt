-- `bank::admitting::copy_at` meets its contract.
-- Assumes nothing.
use mathlib.Core.Path.{◌≡◌, refl, sym, ◌∙◌, ap}
use native.Mathlib.Omega.{arith}
use lib.ListN.{length, get_or}
use Rattle.laws.proofs.Puts.{puts_at-none, puts_at-next, length-puts_at, copied_at}
use Rattle.bank.proofs.admitting.copy_at.Goals as goal

pub loop-i-init : goal.loop-i-init
loop-i-init c =
    let a = c.args in
    sym (puts_at-none (λ i. get_or a.from.now i 0) a.at a.to.now)

pub bounds-to-at : goal.bounds-to-at
bounds-to-at c =
    let l = c.loop-i in
    let long : length l.to ≡ length c.args.to.now = rw length-puts_at at (ap length l.invariant) in
    omega arith

pub loop-i-preserved : goal.loop-i-preserved
loop-i-preserved c =
    let l = c.loop-i in
    let a = c.args in
    puts_at-next (λ i. get_or a.from.now i 0) a.at l.i a.to.now l.to _ l.invariant refl

pub shape_of-to : goal.shape_of-to
shape_of-to c = rw length-puts_at at (ap length c.loop-i.invariant)

pub returns : goal.returns
returns c =
    let l = c.loop-i in
    let a = c.args in
    let e : l.i ≡ length a.from.now = omega arith in
    rw e at l.invariant ∙ copied_at a.to.now a.at a.from.now c.requires
