-- `blocks_formed` tests the records of each block.
-- Assumes nothing.
use mathlib.Core.Path.{◌≡◌}
use Rattle.laws.proofs.Tests.{every-step}
use Rattle.bank_spec.specs.State.{block_formed}
use native.Mathlib.Omega.{arith}
use Rattle.bank.proofs.formed.blocks_formed.Goals as goal

pub loop-b-preserved : goal.loop-b-preserved
loop-b-preserved c =
    let l = c.loop-b in
    every-step (block_formed c.args.bank.now) l.b l.invariant c.block_formed-good.ensures

pub returns : goal.returns
returns c =
    let e : c.loop-b.b ≡ c.args.count = omega arith in
    rw e at c.loop-b.invariant
