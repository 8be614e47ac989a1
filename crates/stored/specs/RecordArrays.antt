-- A cascade's records as the code holds them: their number, and an array of 20.
-- Assumes nothing.
use Rattle.std.specs.Prelude.{ℕ, List, [], length, get_or, replicate, Result, Ok, Err}
use Rattle.refusals.specs.declared.Refusal.{Refusal}
use Rattle.refusals.specs.Numbers.{number}
use Rattle.laws.specs.Lists.{tab, puts}
pub use Rattle.stored.specs.declared.StoredRecords.{StoredRecords}
use Rattle.stored_spec.specs.declared.Record.{Record}
use Rattle.stored_spec.specs.ReadWrite.{Cascade, ReadAnswer, not_read, was_read, no_record}

unfoldable pub records_of : StoredRecords → List Record
records_of c = tab c.count (λ i. get_or c.records i no_record)

abbrev pub cascade_from : StoredRecords → List ℕ → Cascade
cascade_from c bytes = record { records = records_of c; rows = bytes }

-- records as the code's structure, zeros past them
unfoldable pub structure_of : List Record → StoredRecords
structure_of rs =
    let n = length rs in
    record { count = n; records = puts n (λ i. get_or rs i no_record) (replicate 20 no_record) }

-- what reading answers, by number
pub record ReadRecords : Type 0 where
  pub refusal : ℕ
  pub records : StoredRecords

-- 12, or 0 and the records as a structure; the rows are the row bytes as they stand
abbrev pub read_as : ReadAnswer → ReadRecords
read_as (not_read n) = record { refusal = n; records = structure_of [] }
read_as (was_read c) = record { refusal = 0; records = structure_of c.records }

-- what the code answers
abbrev pub read_given : Result StoredRecords Refusal → ReadRecords
read_given (Ok c) = record { refusal = 0; records = c }
read_given (Err r) = record { refusal = number r; records = structure_of [] }
