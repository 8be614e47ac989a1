-- `blocks_formed` tests the records of each block.
-- Assumes nothing.
use mathlib.Core.Path.{◌≡◌}
use Rattle.laws.specs.Tests.{every}
use Rattle.bank_spec.specs.State.{block_formed}
use Rattle.bank.proofs.formed.blocks_formed.Given as goal

abbrev pub invariant-loop-b : goal.invariant-loop-b
invariant-loop-b l = l.good ≡ every l.b (block_formed l.bank)
