-- `bank::blocks::Blocks::timing` meets its contract.
-- Assumes nothing.
use Rattle.bank.proofs.formed.HeldBlocks.{block_at}
use Rattle.bank.proofs.timing.DueTests.{block-timed}
use Rattle.bank.proofs.blocks.Blocks.timing.Goals as goal

pub invariant_of-result : goal.invariant_of-result
invariant_of-result c =
    let k = c.args.self.bank.now in
    record { timed = block-timed k c.args.b (block_at k c.args.self.formed c.args.b c.requires) }
