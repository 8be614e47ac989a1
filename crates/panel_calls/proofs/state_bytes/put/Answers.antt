-- `panel_calls::state_bytes::put` meets its contract.
-- Assumes nothing.
use mathlib.Core.Path.{◌≡◌, refl, sym, ap}
use native.Mathlib.Omega.{arith}
use lib.ListN.{length, get_or}
use Rattle.laws.proofs.Puts.{puts_at-none, puts_at-next, length-puts_at}
use Rattle.panel_calls.proofs.state_bytes.put.Goals as goal

pub loop-i-init : goal.loop-i-init
loop-i-init g c = let a = c.args in sym (puts_at-none (λ k. get_or a.part.now k 0) a.at a.bytes.now)

pub bounds-bytes-at : goal.bounds-bytes-at
bounds-bytes-at g c =
    let l = c.loop-i in
    let long : length l.bytes ≡ length c.args.bytes.now = rw length-puts_at at (ap length l.invariant) in
    omega arith

pub loop-i-preserved : goal.loop-i-preserved
loop-i-preserved g c =
    let l = c.loop-i in
    let a = c.args in
    puts_at-next (λ k. get_or a.part.now k 0) a.at l.i a.bytes.now l.bytes _ l.invariant refl

pub returns : goal.returns
returns g c =
    let l = c.loop-i in
    let e : l.i ≡ g.row.N = omega arith in
    rw e at l.invariant
