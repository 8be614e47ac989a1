-- `bank::blocks::Blocks::records` meets its contract.
-- Assumes nothing.
use native.Mathlib.Omega.{arith}
use Rattle.bank.proofs.formed.HeldBlocks.{block_at, few-records}
use Rattle.bank.proofs.blocks.Blocks.records.Goals as goal

pub records_at-requires : goal.records_at-requires
records_at-requires c =
    let s = c.args.self in
    (omega (arith, s.few, c.requires), few-records s.bank.now c.args.b (block_at s.bank.now s.formed c.args.b c.requires))
