-- `hit_among` tests each record against those before it.
-- Assumes nothing.
use mathlib.Core.Path.{◌≡◌}
use native.Mathlib.Omega.{arith}
use Rattle.laws.specs.Tests.{any}
use Rattle.sheet.specs.Pairs.{hit_in}
use Rattle.laws.proofs.Tests.{any_step}
use Rattle.sheet.proofs.pairs.hit_among.Goals as goal

pub loop-r-preserved : goal.loop-r-preserved
loop-r-preserved c =
    let a = c.args in
    any_step (λ k. any k (hit_in a.tests.now.masks a.tests.now.values a.all.now.forces a.all.now.against k)) c.loop-r.r c.loop-r.invariant c.hit_before-hit.ensures

pub returns : goal.returns
returns c =
    let e : c.loop-r.r ≡ c.args.count = omega arith in
    rw e at c.loop-r.invariant
