-- Demand 3: one claim about a whole list of calls, wherever it breaks off (document 01, "The book of demand 3"; document 02, §8).
-- Assumes nothing.
use Rattle.std.specs.Prelude.{◌≡◌, ◌⊎◌, true, false, List, [], ◌∷◌, ◌++◌, ℕ, suc, ◌-◌, ◌*◌, ◌/◌, ◌^◌, ◌<◌, ◌≤◌, min, ltb, length, get_or, take, replicate}
use Rattle.sheet_spec.specs.Job.{Job, t}
use Rattle.sheet_spec.specs.Values.{value, allows}
use Rattle.sheet_spec.specs.Table.{table}
use Rattle.reduction_spec.specs.declared.Node.{Node}
use Rattle.reduction_spec.specs.Columns.{width}
use Rattle.reduction_spec.specs.Merge.{reduced}
use Rattle.stored_spec.specs.StoredForm.{cut_byte, rail_byte, cell_at, cell_count}
use Rattle.stored_spec.specs.Run.{AgreeOn}
use Rattle.stored_spec.specs.RowBytes.{two_bytes, room}
use Rattle.cutting_spec.specs.Compile.{compile, Totals}
use Rattle.cutting_spec.specs.Compile as compiler
use Rattle.bank_spec.specs.State.{State, fresh}
use Rattle.bank_spec.specs.Calls.{idle, outputs_of, step}
use Rattle.bank_spec.specs.Book.{Block, Place, Book, new_book, block_at, is_due, cells_in}
use Rattle.bank_spec.specs.CallLists.{Call, latching, stepping, book_call, state_after, book_after, trace, book_trace, reads_of, steps_of, goes_on}
use Rattle.bank_spec.specs.Scanned.{last_cells, set_by, Round, calls_of, stepped_out, whole_reads}

-- a block is compiled when its records and rows are byte for byte what the compiler writes for an accepted job and sheet
pub record CompiledBy (j : Job) (s : List ℕ) (B : Block) : Type 0 where
  pub nodes : List Node
  pub records : List ℕ
  pub rows : List ℕ
  pub totals : Totals
  pub accepted : (compile nodes records rows j s).answer ≡ compiler.accepted totals
  pub records_written : B.records ≡ take (4 * t j) (compile nodes records rows j s).records
  pub rows_written : B.rows ≡ take (room two_bytes totals.rows) (compile nodes records rows j s).rows

-- output o is set, to the value v, which the sheet allows for the word w
pub record SetAllowed (s : List ℕ) (w o v : ℕ) : Type 0 where
  pub is_set : v < 2
  pub allowed : allows (value s w o) v ≡ true

-- r bits tell w columns apart: a code of r bits gives no two of them the same word
pub record TellsApart (r w : ℕ) : Type 0 where
  pub code : ℕ → ℕ
  pub fits : (c : ℕ) → c < w → code c < 2 ^ r
  pub apart : (c d : ℕ) → c < w → d < w → code c ≡ code d → c ≡ d

-- the fewest bits that do
pub record FewestBits (r w : ℕ) : Type 0 where
  pub enough : TellsApart r w
  pub fewest : (q : ℕ) → TellsApart q w → r ≤ q

-- merged columns are the different ones after all merges: their number at height h
abbrev pub merged_columns : Job → List ℕ → ℕ → ℕ
merged_columns j s h = width j (reduced j (table j s)) h

-- the output o of block b in a bank's state, 2 where it is not set
abbrev pub output_in : State → ℕ → ℕ → ℕ
output_in s b o = get_or (outputs_of s.scan b) o 2

-- the same state but for the words in the scan state
abbrev pub reworded : State → List ℕ → State
reworded s vs =
    record {
      bank = s.bank;
      scan =
          record {
            running = s.scan.running;
            block = s.scan.block;
            cell = s.scan.cell;
            rail = s.scan.rail;
            number = s.scan.number;
            words = vs;
            outputs = s.scan.outputs;
          };
      rows = s.rows;
    }

-- the words vs are the words ws but for unread inputs: bits that no cell in the list of those read uses. Words of blocks that aren't due have
-- no effect on the scan, so they are free
abbrev pub OnlyUnread : List Block → List ℕ → List ℕ → List Place → Type 0
OnlyUnread bs ws vs [] = Unit
OnlyUnread bs ws vs (p ∷ ps) =
    AgreeOn (cell_at (block_at bs p.block).records p.cell).ins (get_or ws p.block 0) (get_or vs p.block 0) × OnlyUnread bs ws vs ps

-- from the state s on, n steps reach Idle. Then every output of each compiled block that is due in scan c is set to a value allowed for the words
-- vs, and every block that isn't due has the outputs that it had
pub record ReadsLeft (c : ℕ) (bs : List Block) (vs : List ℕ) (n : ℕ) (s : State) : Type 0 where
  pub to_idle : (step (state_after s (replicate n stepping))).answer ≡ idle
  pub allowed : (b : ℕ) → b < length bs → is_due c (block_at bs b) ≡ true → (j : Job) (sheet : List ℕ) → CompiledBy j sheet (block_at bs b)
      → (o : ℕ) → o < j.m → SetAllowed sheet (get_or vs b 0) o (output_in (state_after s (replicate n stepping)) b o)
  pub kept : (b : ℕ) → b < length bs → is_due c (block_at bs b) ≡ false
      → outputs_of (state_after s (replicate n stepping)).scan b ≡ outputs_of s.scan b

-- a scan that still runs: the calls before its latch, the words latched and the calls since. bs are the blocks in the book
module _ (S : ℕ) (mem : List ℕ) (before : List Call) (ws : List ℕ) (since : List Call) where
  -- its number is the one that the book has for the next latch
  abbrev pub scan_number : ℕ
  scan_number = (book_after S (length mem) new_book before).next

  abbrev pub book_at_latch : Book
  book_at_latch = (book_call S (length mem) (book_after S (length mem) new_book before) (latching ws)).state

  abbrev pub state_at_latch : State
  state_at_latch = state_after (fresh S mem) (before ++ (latching ws ∷ []))

  abbrev pub blocks : List Block
  blocks = book_at_latch.blocks

  abbrev pub reads : List Place
  reads = reads_of (trace state_at_latch since)

  pub record ScanClaim : Type 0 where
    -- it has made the lesser of its steps and the cells of the due blocks, at most S, reads
    pub read_total : length reads ≡ min (steps_of since) (cells_in scan_number blocks)
    pub within_limit : cells_in scan_number blocks ≤ S
    -- with unread inputs replaced in the latch, the answers and the set outputs so far are the same
    pub same_so_far : (vs : List ℕ) → OnlyUnread blocks ws vs reads
        → trace (fresh S mem) (before ++ (latching vs ∷ since)) ≡ trace (fresh S mem) (before ++ (latching ws ∷ since))
    -- and the reads left set every other output of a compiled block that is due to an allowed value
    pub left_in_latch : (vs : List ℕ) → OnlyUnread blocks ws vs reads
        → ReadsLeft scan_number blocks vs (cells_in scan_number blocks - length reads) (state_after (fresh S mem) (before ++ (latching vs ∷ since)))
    -- likewise with unread inputs replaced in the scan state
    pub left_in_scan : (vs : List ℕ) → OnlyUnread blocks ws vs reads
        → ReadsLeft scan_number blocks vs (cells_in scan_number blocks - length reads)
        (reworded (state_after (fresh S mem) (before ++ (latching ws ∷ since))) vs)
    -- a block that isn't due gets no output from this scan: it has those that it had before the latch
    pub not_due : (b : ℕ) → b < length blocks → is_due scan_number (block_at blocks b) ≡ false
        → outputs_of (state_after (fresh S mem) (before ++ (latching ws ∷ since))).scan b ≡ outputs_of (state_after (fresh S mem) before).scan b

-- demand 3, of a bank just made with S, lent the row memory mem, and the list of calls
pub record Demand3 (S : ℕ) (mem : List ℕ) (calls : List Call) : Type 0 where
  -- every answer and the outputs set so far are exactly those of the book
  pub as_book : trace (fresh S mem) calls ≡ book_trace S (length mem) new_book calls
  -- each output set in a compiled block is allowed by its sheet for the latched inputs: the word of its last due scan
  pub allowed : (b : ℕ) (j : Job) (sheet : List ℕ) → b < length (book_after S (length mem) new_book calls).blocks
      → CompiledBy j sheet (block_at (book_after S (length mem) new_book calls).blocks b)
      → (o : ℕ) → o < j.m
      → (output_in (state_after (fresh S mem) calls) b o ≡ 2)
      ⊎ SetAllowed sheet (block_at (book_after S (length mem) new_book calls).blocks b).word o (output_in (state_after (fresh S mem) calls) b o)
  -- its rails number exactly the fewest bits that tell apart the merged columns at each cut
  pub rails : (b : ℕ) (j : Job) (sheet : List ℕ) → b < length (book_after S (length mem) new_book calls).blocks
      → CompiledBy j sheet (block_at (book_after S (length mem) new_book calls).blocks b)
      → (i : ℕ) → i < t j → cut_byte (block_at (book_after S (length mem) new_book calls).blocks b).records i ≡ 1
      → FewestBits (rail_byte (block_at (book_after S (length mem) new_book calls).blocks b).records i) (merged_columns j sheet (t j - suc i))
  -- a step answered Idle changes nothing
  pub idle_keeps : (step (state_after (fresh S mem) calls)).answer ≡ idle → (step (state_after (fresh S mem) calls)).state ≡ state_after (fresh S mem) calls
  -- the set outputs of every block are exactly those of the cells read in its last due scan since the last admission
  pub set_outputs : (b : ℕ) → b < length (book_after S (length mem) new_book calls).blocks → (o : ℕ) → o < 8
      → ltb (output_in (state_after (fresh S mem) calls) b o) 2
      ≡ set_by (block_at (book_after S (length mem) new_book calls).blocks b).records (last_cells S (length mem) new_book b [] calls) o
  -- while a scan runs
  pub scan : (before : List Call) (ws : List ℕ) (since : List Call) → calls ≡ before ++ (latching ws ∷ since)
      → goes_on S (length mem) (book_at_latch S mem before ws since) since ≡ true
      → ScanClaim S mem before ws since
  -- if scans are stepped to their end and nothing is admitted, every block is read whole exactly 8 divided by its period times in any 8 accepted
  -- latches in a row
  pub eight : (before : List Call) (rounds : List Round) → calls ≡ before ++ calls_of rounds → length rounds ≡ 8
      → stepped_out S (length mem) (book_after S (length mem) new_book before) rounds ≡ true
      → (b : ℕ) → b < length (book_after S (length mem) new_book before).blocks
      → whole_reads (state_after (fresh S mem) before) rounds b (cell_count (block_at (book_after S (length mem) new_book before).blocks b).records)
      ≡ 8 / (block_at (book_after S (length mem) new_book before).blocks b).period
