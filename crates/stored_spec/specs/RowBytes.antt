-- Rows as bytes (document 02, §6): z bytes a row, low byte first. Row memory has two bytes a row; with one byte a row the same definitions say
-- document 01's form.
-- Assumes nothing.
use Rattle.std.specs.Prelude.{ℕ, ◌+◌, ◌*◌, ◌/◌, ◌%◌, ◌^◌, List, length, get_or}
use Rattle.laws.specs.Tests.{sum}
use Rattle.laws.specs.Lists.{tab, rect}
use Rattle.sheet_spec.specs.Limits.{most_rows}

abbrev pub one_byte : ℕ
one_byte = 1

abbrev pub two_bytes : ℕ
two_bytes = 2

-- "up to 65,536 bytes": of the usable rows
abbrev pub most_row_bytes : ℕ
most_row_bytes = most_rows * two_bytes

-- a row of z bytes has a bit for each of at most so many outputs
abbrev pub outputs_in : ℕ → ℕ
outputs_in z = 8 * z

module _ (z : ℕ) where
  -- the value of row i in row bytes
  unfoldable pub row_value : List ℕ → ℕ → ℕ
  row_value bytes i = sum z (λ b. get_or bytes (i * z + b) 0 * 2 ^ (8 * b))

  -- the values of the rows in row bytes, in order
  unfoldable pub rows_of : List ℕ → List ℕ
  rows_of bytes = tab (length bytes / z) (row_value bytes)

  -- how many bytes n rows take
  unfoldable pub room : ℕ → ℕ
  room n = n * z

  -- the bytes of rows with these values, in order
  unfoldable pub row_bytes : List ℕ → List ℕ
  row_bytes rows = rect (length rows) z (λ i b. get_or rows i 0 / 2 ^ (8 * b) % 256)
