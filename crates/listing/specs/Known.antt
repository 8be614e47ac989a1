-- Which outputs of a job in the input are certain where some inputs are not known (document 02, §5; program `cascade_known`).
-- Assumes nothing.
use Rattle.std.specs.Prelude.{ℕ, ◌*◌, cond, List, eqb, take, replicate}
use Rattle.sheet_spec.specs.Limits.{most_record_bytes}
use Rattle.stored_spec.specs.RowBytes.{two_bytes, most_row_bytes, room}
use Rattle.evaluation_spec.specs.Known.{Evaluated, refused, evaluate}
use Rattle.node_table.specs.Nodes.{WholeOutcome, whole_outcome}
use Rattle.listing.specs.Split.{variables, job_of, sheet_of}

-- of what the compiler gives for a job of t variables: its refusal, or the evaluation of the records and rows that it wrote
unfoldable pub evaluate_written : WholeOutcome → ℕ → ℕ → ℕ → Evaluated
evaluate_written o t known w =
    cond (eqb o.answer.refusal 0)
    (evaluate (take (4 * t) o.records) (take (room two_bytes o.answer.rows) o.rows) known w)
    (refused o.answer.refusal)

-- of the input's job, over memory that is enough for every job
unfoldable pub evaluate_input : List ℕ → ℕ → ℕ → Evaluated
evaluate_input input known w =
    evaluate_written (whole_outcome (replicate most_record_bytes 0) (replicate most_row_bytes 0) (job_of input) (sheet_of input)) (variables input) known w
