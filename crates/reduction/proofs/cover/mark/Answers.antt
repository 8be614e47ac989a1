-- `reduction::cover::mark` meets its contract.
-- Assumes nothing.
use mathlib.Core.Path.{◌≡◌}
use native.Mathlib.Omega.{arith}
use Rattle.reduction.specs.RunningKeys.{gone}
use Rattle.reduction.proofs.cover.CliqueLeaves.{stored-none, stored_next}
use Rattle.reduction.proofs.cover.mark.Goals as goal

pub loop-i-init : goal.loop-i-init
loop-i-init c =
    let a = c.args in
    (stored-none gone a.members.now a.keys.now, stored-none a.g a.members.now a.owner.now)

pub loop-i-preserved : goal.loop-i-preserved
loop-i-preserved c =
    let l = c.loop-i in
    let a = c.args in
    let u = c.from-member.ensures in (
      stored_next gone l.i _ a.members.now a.keys.now l.keys l.invariant.0 u,
      stored_next a.g l.i _ a.members.now a.owner.now l.owner l.invariant.1 u,
    )

pub returns : goal.returns
returns c =
    let l = c.loop-i in
    let e : l.i ≡ c.args.count = omega arith in
    record {
      keys_after = rw e at l.invariant.0;
      owner_after = rw e at l.invariant.1;
    }
