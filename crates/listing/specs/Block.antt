-- The cascade of a job in the input as a block: its records and rows, and the line of a list of calls that admits it.
-- Assumes nothing.
use Rattle.std.specs.Prelude.{ℕ, ◌*◌, cond, List, eqb, take, replicate}
use Rattle.sheet_spec.specs.Limits.{most_record_bytes}
use Rattle.stored_spec.specs.RowBytes.{two_bytes, most_row_bytes, room}
use Rattle.block_text.specs.BlockLine.{WrittenLine, write_line}
use Rattle.node_table.specs.Nodes.{WholeOutcome, whole_outcome}
use Rattle.listing.specs.Split.{variables, job_of, sheet_of}

-- what the compiler gives for the input's job, over memory that is enough for every job
abbrev pub compiled_input : List ℕ → WholeOutcome
compiled_input input = whole_outcome (replicate most_record_bytes 0) (replicate most_row_bytes 0) (job_of input) (sheet_of input)

-- the records and the rows that it wrote
unfoldable pub input_records : List ℕ → List ℕ
input_records input = take (4 * variables input) (compiled_input input).records

unfoldable pub input_rows : List ℕ → List ℕ
input_rows input = take (room two_bytes (compiled_input input).answer.rows) (compiled_input input).rows

-- the line that admits them; the compiler's refusal where it refuses the job, and then nothing changes
unfoldable pub block_input : List ℕ → List ℕ → WrittenLine
block_input input old =
    cond (eqb (compiled_input input).answer.refusal 0) (write_line (input_records input) (input_rows input) old)
    (record { refusal = (compiled_input input).answer.refusal; size = 0; text = old })
