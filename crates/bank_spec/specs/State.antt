-- The bank, its scan state and the row memory, and when an operation gives 12 of them (document 01, "The bank"; document 02, §8).
-- Assumes nothing.
use Rattle.std.specs.Prelude.{ℕ, ◌-◌, ◌*◌, ◌^◌, Bool, not, ◌&&◌, ◌||◌, false, List, leb, ltb, get_or, take, drop, replicate}
use Rattle.laws.specs.Tests.{every, sum, find, within}
use Rattle.sheet_spec.specs.Limits.{most_blocks, most_outputs, most_rows, most_scan, most_variables, most_record_bytes}
use Rattle.stored_spec.specs.StoredForm.{records_formed, cell_count, cell_at, row_count}
use Rattle.bank_spec.specs.Due.{scan_numbers, timed, due, due_cells}
pub use Rattle.bank_spec.specs.declared.Bank.{Bank}
pub use Rattle.bank_spec.specs.declared.Scan.{Scan}

pub record State : Type 0 where
  pub bank : Bank
  pub scan : Scan
  pub rows : List ℕ

-- the records, the period and the phase of the block at place b
unfoldable pub records_of : Bank → ℕ → List ℕ
records_of k b = take (get_or k.lengths b 0 * 4) (drop (b * most_record_bytes) k.records)

abbrev pub period_of : Bank → ℕ → ℕ
period_of k b = get_or k.periods b 0

abbrev pub phase_of : Bank → ℕ → ℕ
phase_of k b = get_or k.phases b 0

-- whether it is due in scan n, and the cells that this scan reads of it
unfoldable pub due_at : Bank → ℕ → ℕ → Bool
due_at k n b = due (period_of k b) (phase_of k b) n

unfoldable pub cells_due : Bank → ℕ → ℕ → ℕ
cells_due k n b = due_cells (period_of k b) (phase_of k b) n (records_of k b)

-- the cells that scan n reads of the blocks before place b, and the rows of these blocks
unfoldable pub cells_before : Bank → ℕ → ℕ → ℕ
cells_before k n b = sum b (cells_due k n)

unfoldable pub rows_before : Bank → ℕ → ℕ
rows_before k b = sum b (λ i. row_count (records_of k i))

-- of all blocks held
abbrev pub cells_held : Bank → ℕ → ℕ
cells_held k n = cells_before k n k.count

abbrev pub rows_held : Bank → ℕ
rows_held k = rows_before k k.count

-- the first place from b on whose block is due in scan n; with none, the number of blocks held
unfoldable pub next_due : Bank → ℕ → ℕ → ℕ
next_due k n b = find (due_at k n) (k.count - b) b

-- a block whose records are well formed, and whose period and phase are not wrong
unfoldable pub block_formed : Bank → ℕ → Bool
block_formed k b = within 1 most_variables (get_or k.lengths b 0) && records_formed (records_of k b) && timed (period_of k b) (phase_of k b)

-- 12 of the bank: an S out of range, over 8 blocks, a block not well formed or with a wrong period or phase, in some scan of the eight more due
-- cells than S, over 32,768 rows
unfoldable pub bank_formed : Bank → Bool
bank_formed k =
    within 1 most_scan k.limit && leb k.count most_blocks && every k.count (block_formed k) && every scan_numbers (λ n. leb (cells_held k n) k.limit)
    && leb (rows_held k) most_rows

-- 12 of the scan state: a scan number above 7; with reads left, a block, cell or rail word outside those held, or a block that isn't due
unfoldable pub scan_formed : Bank → Scan → Bool
scan_formed k s =
    leb s.number 7
    && (not s.running
    || ltb s.block k.count && due_at k s.number s.block && ltb s.cell (cell_count (records_of k s.block))
    && ltb s.rail (2 ^ (cell_at (records_of k s.block) s.cell).upper))

unfoldable pub formed : Bank → Scan → Bool
formed k s = bank_formed k && scan_formed k s

-- all outputs unset; the scan state with no scan, and none of block, cell and rail word. The number is 7, so that the first latch's scan is 0
abbrev pub cleared : List ℕ
cleared = replicate (most_blocks * most_outputs) 2

abbrev pub at_rest : Scan
at_rest = record { running = false; block = 0; cell = 0; rail = 0; number = 7; words = replicate most_blocks 0; outputs = cleared }

-- a bank just made, with its fresh scan state
abbrev pub empty_bank : ℕ → Bank
empty_bank S =
    record {
      limit = S;
      count = 0;
      lengths = replicate most_blocks 0;
      records = replicate (most_blocks * most_record_bytes) 0;
      periods = replicate most_blocks 0;
      phases = replicate most_blocks 0;
    }

abbrev pub fresh : ℕ → List ℕ → State
fresh S rows = record { bank = empty_bank S; scan = at_rest; rows = rows }

-- 1: S out of range
unfoldable pub limit_refused : ℕ → Bool
limit_refused S = not (within 1 most_scan S)

abbrev pub state_of : Bank → Scan → List ℕ → State
state_of k s rows = record { bank = k; scan = s; rows = rows }
