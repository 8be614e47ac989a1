-- The book (document 01, "The book of demand 3"; document 02, §8): it is fed S, the length m of the row memory and the calls, and nothing of bank,
-- scan state or rows held.
-- Assumes nothing.
use Rattle.std.specs.Prelude.{ℕ, ◌+◌, Bool, cond, not, ◌||◌, List, [], ◌∷◌, ◌++◌, map, eqb, leb, ltb, length, get_or, set}
use Rattle.laws.specs.Tests.{any, sum}
use Rattle.laws.specs.Lists.{tab, joined}
use Rattle.sheet_spec.specs.Limits.{most_blocks, most_rows}
use Rattle.stored_spec.specs.StoredForm.{well_formed, cell_at, row_count}
use Rattle.stored_spec.specs.RowBytes.{two_bytes, row_value, room}
use Rattle.stored_spec.specs.Run.{row_place, outputs_after, rail_after, unset}
use Rattle.bank_spec.specs.Due.{scan_numbers, number_after, timed, due, due_cells}
use Rattle.bank_spec.specs.Calls.{accepted, idle, went, After, numbered, Handed}

-- a block: its records and rows, period and phase as handed in, its word, its rail word, and its outputs, 0 or 1 where set, else 2
pub record Block : Type 0 where
  pub records : List ℕ
  pub rows : List ℕ
  pub period : ℕ
  pub phase : ℕ
  pub word : ℕ
  pub rail : ℕ
  pub outputs : List ℕ

-- a block and one of its cells
pub record Place : Type 0 where
  pub block : ℕ
  pub cell : ℕ

-- the blocks; the cells that the scan has yet to read in the bank's order, none where there is no scan; and the number that the next latch
-- gives its scan
pub record Book : Type 0 where
  pub blocks : List Block
  pub to_read : List Place
  pub next : ℕ

-- it starts with no block, no scan, nothing set
abbrev pub new_book : Book
new_book = record { blocks = []; to_read = []; next = 0 }

abbrev pub no_block : Block
no_block = record { records = []; rows = []; period = 0; phase = 0; word = 0; rail = 0; outputs = [] }

abbrev pub block_at : List Block → ℕ → Block
block_at bs b = get_or bs b no_block

-- whether a block is due in scan n, and the cells that this scan reads of it
unfoldable pub is_due : ℕ → Block → Bool
is_due n b = due b.period b.phase n

unfoldable pub due_cells_of : ℕ → Block → ℕ
due_cells_of n b = due_cells b.period b.phase n b.records

-- the cells that scan n reads of all blocks in the book, and the rows of all blocks
unfoldable pub cells_in : ℕ → List Block → ℕ
cells_in n bs = sum (length bs) (λ b. due_cells_of n (block_at bs b))

unfoldable pub rows_in : List Block → ℕ
rows_in bs = sum (length bs) (λ b. row_count (block_at bs b).records)

-- admission's refused cases, in their order, judged by the blocks in the book
unfoldable pub book_refusal : ℕ → ℕ → List Block → Handed → ℕ
book_refusal S m bs h =
    cond (not (well_formed h.records h.rows)) 12
    (cond (not (timed h.period h.phase)) 16
    (cond (leb most_blocks (length bs)) 13
    (cond (any scan_numbers (λ n. ltb S (cells_in n bs + due_cells h.period h.phase n h.records))) 14
    (cond (ltb m (room two_bytes (rows_in bs + row_count h.records)) || ltb most_rows (rows_in bs + row_count h.records)) 11 0))))

-- the block with the word w, its rail word 0 and nothing set
unfoldable pub wiped : ℕ → Block → Block
wiped w b =
    record { records = b.records; rows = b.rows; period = b.period; phase = b.phase; word = w; rail = 0; outputs = unset }

abbrev pub new_block : Handed → Block
new_block h =
    record { records = h.records; rows = h.rows; period = h.period; phase = h.phase; word = 0; rail = 0; outputs = unset }

-- it writes down what is handed in as the next block, drops the scan and wipes all that is set; the next scan is number 0
unfoldable pub entered : Book → Handed → Book
entered k h = record { blocks = map (wiped 0) k.blocks ++ (new_block h ∷ []); to_read = []; next = 0 }

unfoldable pub book_admit : ℕ → ℕ → Book → Handed → After Book
book_admit S m k h =
    let n = book_refusal S m k.blocks h in
    record { answer = numbered n; state = cond (eqb n 0) (entered k h) k }

-- the cells of the blocks due in scan n, in order of admission, each block's cells top first
unfoldable pub places : ℕ → List Block → List Place
places n bs = joined (length bs) (λ b. tab (due_cells_of n (block_at bs b)) (λ c. record { block = b; cell = c }))

-- a block in the latch of scan n: due, it takes the word w and is wiped; else it keeps its word and outputs
unfoldable pub latched_to : ℕ → ℕ → Block → Block
latched_to n w b = cond (is_due n b) (wiped w b) b

-- latch: it starts a scan with no cell read
unfoldable pub book_latch : Book → List ℕ → After Book
book_latch k ws =
    let n = k.next in
    record {
      answer = accepted;
      state =
          record {
            blocks = tab (length k.blocks) (λ b. latched_to n (get_or ws b 0) (block_at k.blocks b));
            to_read = places n k.blocks;
            next = number_after n;
          };
    }

-- the block after its cell c is read
unfoldable pub read_cell : Block → ℕ → Block
read_cell b c =
    let x = row_value two_bytes b.rows (row_place b.records c b.rail b.word) in
    record {
      records = b.records;
      rows = b.rows;
      period = b.period;
      phase = b.phase;
      word = b.word;
      rail = rail_after (cell_at b.records c) x;
      outputs = outputs_after (cell_at b.records c) b.outputs x;
    }

-- step: with no scan, or all cells read, Idle, and nothing changes; else it reads the next cell
unfoldable pub read_first : Book → List Place → After Book
read_first k [] = record { answer = idle; state = k }
read_first k (p ∷ ps) =
    record {
      answer = went p.block p.cell;
      state =
          record { blocks = set k.blocks p.block (read_cell (block_at k.blocks p.block) p.cell); to_read = ps; next = k.next };
    }

unfoldable pub book_step : Book → After Book
book_step k = read_first k k.to_read
