-- Admission, latch and step: the answer and the state after, for every state (document 01, "The bank" and "Who can cause a refusal"; document 02, §8).
-- Assumes nothing.
use Rattle.std.specs.Prelude.{ℕ, ◌+◌, ◌*◌, ◌/◌, ◌%◌, Bool, true, false, cond, not, ◌&&◌, ◌||◌, List, eqb, leb, ltb, length, get_or, set, take, drop}
use Rattle.laws.specs.Tests.{any}
use Rattle.laws.specs.Lists.{tab, written}
use Rattle.refusals.specs.Numbers.{number}
use Rattle.sheet_spec.specs.Limits.{most_blocks, most_outputs, most_rows, most_record_bytes}
use Rattle.stored_spec.specs.StoredForm.{well_formed, cell_count, cell_at, row_count}
use Rattle.stored_spec.specs.RowBytes.{two_bytes, row_value, room}
use Rattle.stored_spec.specs.Run.{row_place, outputs_after, rail_after}
use Rattle.bank_spec.specs.Due.{scan_numbers, number_after, timed, due_cells}
use Rattle.bank_spec.specs.State.{State, Bank, Scan, records_of, due_at, next_due, cells_held, rows_before, rows_held, formed, at_rest}
pub use Rattle.bank_spec.specs.declared.StepAnswer.{StepAnswer}
use Rattle.bank_spec.specs.declared.StepAnswer.TheVariants.{Went, Idle, Refused}

-- what a call is answered: accepted or the number; for a step Idle, or Went with block and cell
pub data Answer : Type 0 where
  accepted : Answer
  refused : ℕ → Answer
  idle : Answer
  went : ℕ → ℕ → Answer

-- the answer that a step's enum is
unfoldable pub answer_of : StepAnswer → Answer
answer_of (Went b c) = went b c
answer_of Idle = idle
answer_of (Refused r) = refused (number r)

-- the answer that a number is, where 0 is accepted
unfoldable pub numbered : ℕ → Answer
numbered n = cond (eqb n 0) accepted (refused n)

pub record After (A : Type 0) : Type 0 where
  pub answer : Answer
  pub state : A

-- a block handed in: its records and rows, its period and its phase
pub record Handed : Type 0 where
  pub records : List ℕ
  pub rows : List ℕ
  pub period : ℕ
  pub phase : ℕ

abbrev pub handed : List ℕ → List ℕ → ℕ → ℕ → Handed
handed R bytes period phase = record { records = R; rows = bytes; period = period; phase = phase }

-- the older admission means period 1 and phase 0
abbrev pub every_scan : List ℕ → List ℕ → Handed
every_scan R bytes = handed R bytes 1 0

-- admission's refusal, 0 where there is none: 12, 16, 13, 14, 11
unfoldable pub admit_refusal : State → Handed → ℕ
admit_refusal s h =
    cond (not (formed s.bank s.scan && well_formed h.records h.rows)) 12
    (cond (not (timed h.period h.phase)) 16
    (cond (leb most_blocks s.bank.count) 13
    (cond (any scan_numbers (λ n. ltb s.bank.limit (cells_held s.bank n + due_cells h.period h.phase n h.records))) 14
    (cond
    (ltb (length s.rows) (room two_bytes (rows_held s.bank + row_count h.records)) || ltb most_rows (rows_held s.bank + row_count h.records))
    11 0))))

-- admission copies a block's records, period and phase
unfoldable pub with_block : Bank → Handed → Bank
with_block k h =
    record {
      limit = k.limit;
      count = k.count + 1;
      lengths = set k.lengths k.count (length h.records / 4);
      records = written k.records (k.count * most_record_bytes) h.records;
      periods = set k.periods k.count h.period;
      phases = set k.phases k.count h.phase;
    }

-- and appends its rows; it clears all set outputs and leaves no scan running
unfoldable pub admitted : State → Handed → State
admitted s h =
    record { bank = with_block s.bank h; scan = at_rest; rows = written s.rows (room two_bytes (rows_held s.bank)) h.rows }

unfoldable pub admit : State → Handed → After State
admit s h =
    let n = admit_refusal s h in
    record { answer = numbered n; state = cond (eqb n 0) (admitted s h) s }

-- whether reads are left, the block, cell and rail word of the next, the scan's number, the words and the outputs
abbrev pub scan_at : Bool → ℕ → ℕ → ℕ → ℕ → List ℕ → List ℕ → Scan
scan_at on b c r n ws outs = record { running = on; block = b; cell = c; rail = r; number = n; words = ws; outputs = outs }

-- scan n from the first due block on that stands at place b or later; with none, all cells are read
unfoldable pub scan_from : Bank → ℕ → ℕ → List ℕ → List ℕ → Scan
scan_from k n b ws outs =
    let d = next_due k n b in
    cond (ltb d k.count) (scan_at true d 0 0 n ws outs) (scan_at false 0 0 0 n ws outs)

-- of the blocks held, those not due in scan n keep word and outputs
unfoldable pub keeps : Bank → ℕ → ℕ → Bool
keeps k n b = ltb b k.count && not (due_at k n b)

-- the words after the latch of scan n: bits above 11 are left out, and so are words for places not held
unfoldable pub words_kept : Bank → ℕ → List ℕ → List ℕ → List ℕ
words_kept k n old ws = tab most_blocks (λ b. cond (keeps k n b) (get_or old b 0) (cond (ltb b k.count) (get_or ws b 0 % 4096) 0))

-- the outputs after it: unset but for those kept
unfoldable pub outputs_kept : Bank → ℕ → List ℕ → List ℕ
outputs_kept k n old = tab (most_blocks * most_outputs) (λ i. cond (keeps k n (i / most_outputs)) (get_or old i 0) 2)

-- latching starts the next scan, drops a running one, and clears the outputs of the due blocks
unfoldable pub latched : Bank → Scan → List ℕ → Scan
latched k s ws = let n = number_after s.number in scan_from k n 0 (words_kept k n s.words ws) (outputs_kept k n s.outputs)

unfoldable pub latch : State → List ℕ → After State
latch s ws =
    cond (formed s.bank s.scan)
    (record { answer = accepted; state = record { bank = s.bank; scan = latched s.bank s.scan ws; rows = s.rows } })
    (record { answer = refused 12; state = s })

-- the row that the next cell reads
unfoldable pub next_row : Bank → Scan → List ℕ → ℕ
next_row k s rows =
    let R = records_of k s.block in
    row_value two_bytes rows (rows_before k s.block + row_place R s.cell s.rail (get_or s.words s.block 0))

-- the outputs of block b
unfoldable pub outputs_of : Scan → ℕ → List ℕ
outputs_of s b = take most_outputs (drop (b * most_outputs) s.outputs)

-- the scan state moved on by one read, of the row x. Due blocks are read in order of admission, each block's cells top first
unfoldable pub moved : Bank → Scan → ℕ → Scan
moved k s x =
    let R = records_of k s.block in
    let c = cell_at R s.cell in
    let outs = written s.outputs (s.block * most_outputs) (outputs_after c (outputs_of s s.block) x) in
    cond (ltb (s.cell + 1) (cell_count R)) (scan_at true s.block (s.cell + 1) (rail_after c x) s.number s.words outs)
    (scan_from k s.number (s.block + 1) s.words outs)

-- 12, then Idle, then 11 when lent less than all rows held need
unfoldable pub step : State → After State
step s =
    cond (not (formed s.bank s.scan)) (record { answer = refused 12; state = s })
    (cond (not s.scan.running) (record { answer = idle; state = s })
    (cond (ltb (length s.rows) (room two_bytes (rows_held s.bank))) (record { answer = refused 11; state = s })
    (record {
      answer = went s.scan.block s.scan.cell;
      state = record { bank = s.bank; scan = moved s.bank s.scan (next_row s.bank s.scan s.rows); rows = s.rows };
    })))
