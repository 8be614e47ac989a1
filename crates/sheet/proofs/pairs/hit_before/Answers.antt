-- `hit_before` tests a record against those before it.
-- Assumes nothing.
use mathlib.Core.Path.{◌≡◌, refl}
use native.Mathlib.Omega.{arith}
use Rattle.sheet.specs.Pairs.{hit_in}
use Rattle.laws.proofs.Tests.{any_step}
use Rattle.sheet.proofs.pairs.hit_before.Goals as goal

pub loop-q-preserved : goal.loop-q-preserved
unfolding hit_in
loop-q-preserved c =
    let a = c.args in
    any_step (hit_in a.tests.now.masks a.tests.now.values a.all.now.forces a.all.now.against a.r) c.loop-q.q c.loop-q.invariant refl

pub returns : goal.returns
returns c =
    let e : c.loop-q.q ≡ c.args.r = omega arith in
    rw e at c.loop-q.invariant
