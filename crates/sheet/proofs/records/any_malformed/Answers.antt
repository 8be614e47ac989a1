-- `any_malformed` is refusal 4's test.
-- Assumes nothing.
use mathlib.Core.Path.{◌≡◌}
use Prim.Native.Nat.{◌/◌}
use native.Mathlib.Omega.{arith}
use lib.ListN.{length}
use Rattle.sheet_spec.specs.Refusals.{malformed, any_malformed}
use Rattle.laws.proofs.Tests.{any_step}
use Rattle.sheet.proofs.records.any_malformed.Goals as goal

pub loop-r-preserved : goal.loop-r-preserved
loop-r-preserved c =
    let a = c.args in
    any_step (malformed a.n a.m a.sheet.now) c.loop-r.r c.loop-r.invariant c.is_malformed-found.ensures

pub returns : goal.returns
unfolding any_malformed
returns c =
    let e : c.loop-r.r ≡ length c.args.sheet.now / 8 = omega arith in
    rw e at c.loop-r.invariant
