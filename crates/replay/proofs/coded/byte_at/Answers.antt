-- `replay::coded::byte_at` meets its contract.
-- Assumes nothing.
use mathlib.Core.Path.{◌∙◌}
use native.Mathlib.Omega.{arith}
use Rattle.replay.proofs.coded.byte_at.Goals as goal

pub returns : goal.returns
returns c = (c.from.ensures ∙ c.byte_at.ensures, omega arith)
