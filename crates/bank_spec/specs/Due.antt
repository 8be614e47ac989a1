-- Periods, phases and the scans in which a block is due (document 02, §8).
-- Assumes nothing.
use Rattle.std.specs.Prelude.{ℕ, ◌+◌, ◌%◌, Bool, cond, ◌&&◌, ◌||◌, List, eqb, ltb}
use Rattle.stored_spec.specs.StoredForm.{cell_count}

-- scans are numbered 0 to 7 and round again: so many numbers there are, and the one after n
abbrev pub scan_numbers : ℕ
scan_numbers = 8

unfoldable pub number_after : ℕ → ℕ
number_after n = (n + 1) % scan_numbers

-- a period of 1, 2, 4 or 8 and a phase below it
unfoldable pub timed : ℕ → ℕ → Bool
timed period phase = (eqb period 1 || eqb period 2 || eqb period 4 || eqb period 8) && ltb phase period

-- a block is due when the scan number leaves its phase as remainder by its period
unfoldable pub due : ℕ → ℕ → ℕ → Bool
due period phase n = eqb (n % period) phase

-- the cells that scan n reads of a block with the records R
unfoldable pub due_cells : ℕ → ℕ → ℕ → List ℕ → ℕ
due_cells period phase n R = cond (due period phase n) (cell_count R) 0
