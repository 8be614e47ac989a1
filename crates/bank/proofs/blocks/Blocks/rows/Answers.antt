-- `bank::blocks::Blocks::rows` meets its contract.
-- Assumes nothing.
use mathlib.Core.Path.{◌∙◌, ap}
use native.Mathlib.Omega.{arith}
use Rattle.stored.specs.Reads.{rows_counted}
use Rattle.bank.proofs.formed.HeldBlocks.{block_at, rows_are, rows_at_most}
use Rattle.bank.proofs.blocks.Blocks.rows.Goals as goal

pub returns : goal.returns
returns c =
    let s = c.args.self in
    let h = block_at s.bank.now s.formed c.args.b c.requires in
    let e = c.row_count.ensures ∙ ap rows_counted c.records.ensures ∙ rows_are s.bank.now c.args.b h in
    (e, omega (arith, e, rows_at_most s.bank.now c.args.b h))
