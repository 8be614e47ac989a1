-- `replay::coded::pair_at` meets its contract.
-- Assumes nothing.
use native.Mathlib.Omega.{arith}
use Rattle.replay.specs.Coded.{pair}
use Rattle.replay.proofs.coded.pair_at.Goals as goal

pub returns : goal.returns
unfolding pair
returns c = (omega arith, omega arith)
