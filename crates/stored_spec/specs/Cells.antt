-- Cells, their rows and bits (document 01, "Cuts, cells, rows"). A cell is known by its number of inputs and of outputs, rails counted.
-- Assumes nothing.
use Rattle.std.specs.Prelude.{ℕ, ◌+◌, ◌*◌, ◌^◌, Bool, true, cond, ◌&&◌, List, [], ◌∷◌, leb}
use Rattle.sheet_spec.specs.Limits.{largest_inputs, largest_outputs}
pub use Rattle.stored_spec.specs.declared.Cell.{Cell}

abbrev pub cell : ℕ → ℕ → Cell
cell i o = record { inputs = i; outputs = o }

-- at most k inputs and at most l outputs
unfoldable pub fits : ℕ → ℕ → Cell → Bool
fits k l c = leb c.inputs k && leb c.outputs l

-- the rows of a cell, and its bits: 2^inputs x outputs
unfoldable pub rows : Cell → ℕ
rows c = 2 ^ c.inputs

unfoldable pub bits : Cell → ℕ
bits c = rows c * c.outputs

-- what the code answers of any cell: those of a cell that is not larger than the largest, else 0
unfoldable pub usable_rows : Cell → ℕ
usable_rows c = cond (fits largest_inputs largest_outputs c) (rows c) 0

unfoldable pub usable_bits : Cell → ℕ
usable_bits c = cond (fits largest_inputs largest_outputs c) (bits c) 0

-- of several cells: each fits; the rows; the bits
unfoldable pub all_fit : ℕ → ℕ → List Cell → Bool
all_fit k l [] = true
all_fit k l (c ∷ cs) = fits k l c && all_fit k l cs

unfoldable pub row_total : List Cell → ℕ
row_total [] = 0
row_total (c ∷ cs) = rows c + row_total cs

unfoldable pub bit_total : List Cell → ℕ
bit_total [] = 0
bit_total (c ∷ cs) = bits c + bit_total cs
