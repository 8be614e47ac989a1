-- `each_once` tests that each of the variables stands in the order once.
-- Assumes nothing.
use mathlib.Core.Path.{◌≡◌, ap}
use Prim.Native.Nat.{ℕ, ◌+◌}
use native.Mathlib.Omega.{arith}
use lib.Dec.{eqb}
use Rattle.sheet_spec.specs.Refusals.{times, each_once}
use Rattle.laws.proofs.Tests.{every-step}
use Rattle.sheet.proofs.order.each_once.Goals as goal

pub loop-i-preserved : goal.loop-i-preserved
loop-i-preserved c =
    let a = c.args in
    every-step (λ j. eqb (times a.order.now (a.v + j)) 1) c.loop-i.i c.loop-i.invariant (ap (λ (x : ℕ). eqb x 1) c.times.ensures)

pub returns : goal.returns
unfolding each_once
returns c =
    let e : c.loop-i.i ≡ c.args.k = omega arith in
    rw e at c.loop-i.invariant
