-- `replay::running::write_outputs` meets its contract.
-- Assumes nothing.
use mathlib.Core.Path.{◌≡◌, sym, ap}
use native.Mathlib.Omega.{arith}
use lib.ListN.{length}
use Rattle.laws.proofs.Puts.{puts_at-none, puts_at-next, length-puts_at}
use Rattle.replay.proofs.running.write_outputs.Invariants.{byte_of}
use Rattle.replay.proofs.running.write_outputs.Goals as goal

pub loop-i-init : goal.loop-i-init
loop-i-init c =
    let a = c.args in
    sym (puts_at-none (byte_of a.count a.outputs.now) a.at a.trace.now)

pub bounds-trace-at : goal.bounds-trace-at
bounds-trace-at c =
    let l = c.loop-i in
    let long : length l.trace ≡ length c.args.trace.now = rw length-puts_at at (ap length l.invariant) in
    omega arith

pub loop-i-preserved : goal.loop-i-preserved
loop-i-preserved c =
    let l = c.loop-i in
    let a = c.args in
    puts_at-next (byte_of a.count a.outputs.now) a.at l.i a.trace.now l.trace c.output_at.result l.invariant c.output_at.ensures

pub shape_of-trace : goal.shape_of-trace
shape_of-trace c = rw length-puts_at at (ap length c.loop-i.invariant)

pub returns : goal.returns
returns c =
    let l = c.loop-i in
    let e : l.i ≡ 64 = omega arith in
    rw e at l.invariant
