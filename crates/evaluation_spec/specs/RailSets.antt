-- The set of rail words that may occur, carried from cell to cell (document 02, §5), and what the rows that may be read tell of the outputs.
-- Assumes nothing.
use Rattle.std.specs.Prelude.{ℕ, zero, suc, ◌+◌, ◌-◌, ◌/◌, ◌%◌, ◌^◌, Bool, cond, ◌&&◌, List, eqb, length, get_or, set, replicate}
use Rattle.std.specs.Int.Bits.{bit_and, bit_or}
use Rattle.laws.specs.Bits.{has}
use Rattle.laws.specs.Turns.{in_turn}
use Rattle.sheet_spec.specs.Limits.{largest_inputs, row_values}
use Rattle.stored_spec.specs.Cells.{rows}
use Rattle.stored_spec.specs.RowBytes.{two_bytes, row_value}
use Rattle.stored_spec.specs.StoredForm.{StoredCell, cell_count, cell_at, size_of, rows_before}
use Rattle.stored_spec.specs.Run.{address, outputs_after, rail_after, unset}
use Rattle.evaluation_spec.specs.Known.{unknown}

-- A set of rail words as bits: rail word r is bit r % 64 of word r / 64. Rails are inputs of the cell below, so rail words are as few as its rows may be
abbrev pub rail_words : ℕ
rail_words = 2 ^ largest_inputs / 64

abbrev pub no_rails : List ℕ
no_rails = replicate rail_words 0

unfoldable pub is_in : List ℕ → ℕ → Bool
is_in s r = has (get_or s (r / 64) 0) (r % 64)

unfoldable pub with_rail : List ℕ → ℕ → List ℕ
with_rail s r = set s (r / 64) (bit_or (get_or s (r / 64) 0) (2 ^ (r % 64)))

-- what is kept of the rows read of a cell: the bits that some of them has, the bits that each has, and the rail words below
pub record Gathered : Type 0 where
  pub some : ℕ
  pub each : ℕ
  pub next : List ℕ

abbrev pub none_read : Gathered
none_read = record { some = 0; each = row_values - 1; next = no_rails }

-- with the row x, whose lower rails are the rail word r
unfoldable pub with_row : ℕ → ℕ → Gathered → Gathered
with_row x r g = record { some = bit_or g.some x; each = bit_and g.each x; next = with_rail g.next r }

-- an output by its bits: 0 where no row that may be read has it, 1 where each has; 2 and 2 where the cascade lacks it
unfoldable pub told_of : ℕ → ℕ → ℕ
told_of some each = cond (eqb some 0) 0 (cond (eqb each 1) 1 unknown)

module _ (known w : ℕ) where
  -- the lowest bits a of a row address, those of the inputs is, are as the known inputs of w are
  unfoldable pub agrees : List ℕ → ℕ → Bool
  agrees is a = eqb (bit_and a (address 0 is known)) (address 0 is (bit_and w known))

  -- row i of the cell c may be read, where s is the set of rail words above it
  unfoldable pub may_read : StoredCell → List ℕ → ℕ → Bool
  may_read c s i = is_in s (i / 2 ^ length c.ins) && agrees c.ins (i % 2 ^ length c.ins)

  module _ (R bytes : List ℕ) where
    -- row i of cell k
    unfoldable pub row_at : ℕ → ℕ → ℕ
    row_at k i = row_value two_bytes bytes (rows_before R k + i)

    -- row i of cell k read, where it may be
    unfoldable pub read_at : ℕ → List ℕ → ℕ → Gathered → Gathered
    read_at k s i g = cond (may_read (cell_at R k) s i) (with_row (row_at k i) (rail_after (cell_at R k) (row_at k i)) g) g

    -- of the rows of cell k that may be read, where s is the set of rail words above it
    unfoldable pub gathered : ℕ → List ℕ → Gathered
    gathered k s = in_turn (rows (size_of (cell_at R k))) (read_at k s) none_read

    -- the rail words that may occur before cell k: 0 before the first
    unfoldable pub rail_set : ℕ → List ℕ
    rail_set zero = with_rail no_rails 0
    rail_set (suc k) = (gathered k (rail_set k)).next

    -- the outputs before cell k, set to the bits that some row has; to those that each has
    unfoldable pub some_outs : ℕ → List ℕ
    some_outs zero = unset
    some_outs (suc k) = outputs_after (cell_at R k) (some_outs k) (gathered k (rail_set k)).some

    unfoldable pub each_outs : ℕ → List ℕ
    each_outs zero = unset
    each_outs (suc k) = outputs_after (cell_at R k) (each_outs k) (gathered k (rail_set k)).each

    -- what is told of output o
    unfoldable pub told : ℕ → ℕ
    told o = told_of (get_or (some_outs (cell_count R)) o 2) (get_or (each_outs (cell_count R)) o 2)
