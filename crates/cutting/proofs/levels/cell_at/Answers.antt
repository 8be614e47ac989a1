-- `cutting::levels::cell_at` meets its contract.
-- Assumes nothing.
use Rattle.cutting.specs.Ways.{list_cell}
use Rattle.cutting.proofs.levels.LevelLists.{rails-read, inputs-read}
use Rattle.cutting.proofs.levels.cell_at.Goals as goal

pub returns : goal.returns
unfolding list_cell
returns c =
    let a = c.args in
    let ls = a.levels.now in
    let ra = rails-read ls a.a in
    let rb = rails-read ls a.b in
    let ia = inputs-read ls a.a in
    let ib = inputs-read ls a.b in
    cc
