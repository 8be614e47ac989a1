-- `bank::blocks::Blocks::cells` meets its contract.
-- Assumes nothing.
use mathlib.Core.Path.{◌∙◌, ap}
use native.Mathlib.Omega.{arith}
use Rattle.stored_spec.specs.StoredForm.{cell_count}
use Rattle.bank.proofs.formed.HeldBlocks.{block_at, cells_at_most}
use Rattle.bank.proofs.blocks.Blocks.cells.Goals as goal

pub returns : goal.returns
returns c =
    let s = c.args.self in
    let e = c.cell_count.ensures ∙ ap cell_count c.records.ensures in
    (e, omega (arith, e, cells_at_most s.bank.now c.args.b (block_at s.bank.now s.formed c.args.b c.requires)))
