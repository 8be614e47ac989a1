-- The measure of `cutting::cell_rows::last_row`: the number of heights left.
-- Assumes nothing.
use Rattle.cutting.proofs.cell_rows.+last_row.Given as goal

abbrev pub decreases-last_row : goal.decreases-last_row
decreases-last_row l = l.k
