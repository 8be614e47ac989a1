-- The limits of document 01. Every definition names them, so that each stands once.
-- Assumes nothing.
use Rattle.std.specs.Prelude.{ℕ, ◌+◌, ◌*◌, ◌^◌}

-- "The job": 1 to 12 inputs and 1 to 8 outputs, so at most 20 variables
abbrev pub most_inputs : ℕ
most_inputs = 12

abbrev pub most_outputs : ℕ
most_outputs = 8

abbrev pub most_variables : ℕ
most_variables = most_inputs + most_outputs

-- "The sheet": 0 to 256 records of 8 bytes
abbrev pub sheet_bytes : ℕ
sheet_bytes = 2048

-- the largest cell, 12 inputs and 16 outputs (document 02, §6); K and L are at most these
abbrev pub largest_inputs : ℕ
largest_inputs = 12

abbrev pub largest_outputs : ℕ
largest_outputs = 16

-- a row holds a value for each output of its cell
abbrev pub row_values : ℕ
row_values = 2 ^ largest_outputs

-- "at most 32,768 rows count as usable"
abbrev pub most_rows : ℕ
most_rows = 32768

-- 7: "over 512 columns"; so a diagram that is not refused has at most this many nodes
abbrev pub most_columns : ℕ
most_columns = 512

abbrev pub most_nodes : ℕ
most_nodes = most_variables * most_columns

-- the stored form has at most 20 records of 4 bytes
abbrev pub most_record_bytes : ℕ
most_record_bytes = most_variables * 4

-- "The bank": up to 8 blocks, a scan limit S of 1 to 255
abbrev pub most_blocks : ℕ
most_blocks = 8

abbrev pub most_scan : ℕ
most_scan = 255
