-- `sheet::depends::any_depends` meets its contract.
-- Assumes nothing.
use mathlib.Core.Bool.{Bool, not}
use mathlib.Core.Path.{◌≡◌, ◌∙◌, ap}
use Prim.Native.Nat.{ℕ}
use native.Mathlib.Omega.{arith}
use lib.ListN.{get_or}
use lib.Bits.{bit_and}
use lib.Dec.{eqb}
use Rattle.laws.proofs.Tests.{any_step}
use Rattle.sheet.specs.Depends.{apart_across, above_mask, any_depends}
use Rattle.sheet.proofs.depends.any_depends.Goals as goal

pub loop-q-preserved : goal.loop-q-preserved
loop-q-preserved c =
    let l = c.loop-q in
    let a = c.args in
    let z = a.planes.now.zeros in
    let y = a.planes.now.ones in
    let f : ℕ → Bool = λ k. not (eqb (bit_and (apart_across z y a.job.now.n k) (above_mask a.job.now.order.now a.job.now.m (get_or a.inputs.now k 0))) 0) in
    any_step f l.q l.invariant
    (c.crosses-found.ensures
    ∙ ap (λ (o : ℕ). not (eqb (bit_and (apart_across z y a.job.now.n l.q) o) 0))
    (c.above_mask-above.ensures.0 ∙ ap (above_mask a.job.now.order.now a.job.now.m) c.from.ensures))

pub returns : goal.returns
unfolding any_depends
returns c =
    let l = c.loop-q in
    let e : l.q ≡ c.args.job.now.n = omega arith in
    rw e at l.invariant
