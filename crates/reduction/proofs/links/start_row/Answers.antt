-- `reduction::links::start_row` meets its contract.
-- Assumes nothing.
use Rattle.reduction.proofs.links.FirstBytes.{flags_start}
use Rattle.reduction.proofs.links.start_row.Goals as goal

pub returns : goal.returns
returns c =
    let a = c.args in
    rw c.raise.ensures (flags_start a.c a.w a.row.now c.requires.1 c.requires.2)
