-- `bank::blocks::records_at` meets its contract.
-- Assumes nothing.
use Rattle.bank.proofs.formed.HeldBlocks.{part_is}
use Rattle.bank.proofs.blocks.records_at.Goals as goal

pub returns : goal.returns
returns c = let a = c.args in part_is a.bank.now a.b c.from.ensures
