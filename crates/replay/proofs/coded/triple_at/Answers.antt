-- `replay::coded::triple_at` meets its contract.
-- Assumes nothing.
use native.Mathlib.Omega.{arith}
use Rattle.replay.specs.Coded.{triple}
use Rattle.replay.proofs.coded.triple_at.Goals as goal

pub returns : goal.returns
unfolding triple
returns c = (omega arith, omega arith)
