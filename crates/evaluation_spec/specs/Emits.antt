-- What a stored cascade emits for a word.
-- Assumes nothing.
use Rattle.std.specs.Prelude.{ℕ, List, get_or}
use Rattle.stored_spec.specs.StoredForm.{cell_count}
use Rattle.stored_spec.specs.Run.{run}

-- R and bytes are the records and the row bytes. Output o after the last cell: 0 or 1, and 2 where the cascade lacks it
unfoldable pub emits : List ℕ → List ℕ → ℕ → ℕ → ℕ
emits R bytes w o = get_or (run R bytes w (cell_count R)).outputs o 2
