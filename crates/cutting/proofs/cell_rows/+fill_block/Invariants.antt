-- The measure of `cutting::cell_rows::fill_block`: the number of heights left.
-- Assumes nothing.
use Rattle.cutting.proofs.cell_rows.+fill_block.Given as goal

abbrev pub decreases-fill_block : goal.decreases-fill_block
decreases-fill_block l = l.k
