-- The relation between a bank with its scan state and row memory, and the book. Each call keeps it.
-- Assumes nothing.
use mathlib.Core.Path.{◌≡◌, refl, sym, ◌∙◌, ap, ap₂}
use mathlib.Core.Bool.{Bool, true, false}
use mathlib.Core.List.{List, [], map}
use Prim.Native.Nat.{ℕ, ◌+◌, ◌^◌, ◌<◌, ◌≤◌}
use native.Mathlib.Omega.{arith}
use lib.Dec.{leb}
use lib.ListN.{length, get_or, drop, length-map}
use borrow.Author.Tests.{le-leb, lt-ltb}
use Rattle.laws.specs.Tests.{sum, within}
use Rattle.laws.specs.Lists.{tab}
use Rattle.laws.proofs.Cases.{and_join}
use Rattle.laws.proofs.Tests.{every_of}
use Rattle.laws.proofs.Counts.{sum_ext}
use Rattle.laws.proofs.Lists.{tab_ext, tab_of}
use Rattle.laws.proofs.Parts.{map_at}
use Rattle.stored_spec.specs.StoredForm.{records_formed, well_formed, cell_count, cell_at, row_count}
use Rattle.stored_spec.proofs.Promises.{formed-records, SameInputs}
use Rattle.bank_spec.specs.Due.{timed, due, due_cells, number_after}
use Rattle.bank_spec.specs.State.{State, Scan, records_of, period_of, phase_of, due_at, cells_due, cells_before, rows_before, cells_held, rows_held, block_formed, bank_formed, scan_formed, formed}
use Rattle.bank_spec.specs.Calls.{After, outputs_of}
use Rattle.bank_spec.specs.Book.{Block, Book, no_block, block_at, is_due, due_cells_of, cells_in, rows_in, places}
use Rattle.bank_spec.specs.CallLists.{outputs_held, outputs_in_book}
use Rattle.bank_spec.proofs.Scans.{cells_above}
use Rattle.stored_spec.specs.RowBytes.{two_bytes, row_value, room}

abbrev pub records_in : List Block → ℕ → List ℕ
records_in bs b = (block_at bs b).records

-- the rows of each block in the book before place b, all added
abbrev pub rows_above : List Block → ℕ → ℕ
rows_above bs b = sum b (λ i. row_count (records_in bs i))

-- block b of the bank is block b of the book, its rows stand in the row memory, and its outputs in the scan state
pub record SameBlock (s : State) (bs : List Block) (b : ℕ) : Type 0 where
  pub size : within 1 20 (get_or s.bank.lengths b 0) ≡ true
  pub records : records_of s.bank b ≡ records_in bs b
  pub period : period_of s.bank b ≡ (block_at bs b).period
  pub phase : phase_of s.bank b ≡ (block_at bs b).phase
  pub timing : timed (block_at bs b).period (block_at bs b).phase ≡ true
  pub well : well_formed (records_in bs b) (block_at bs b).rows ≡ true
  pub rows : (i : ℕ) → i < row_count (records_in bs b) → row_value two_bytes s.rows (rows_above bs b + i) ≡ row_value two_bytes (block_at bs b).rows i
  pub outputs : outputs_of s.scan b ≡ (block_at bs b).outputs

-- the scan stands at the first of the cells that the book has yet to read. Words and rail words count where a block is due
pub record Stands (s : Scan) (k : Book) : Type 0 where
  pub block : s.block < length k.blocks
  pub due_now : is_due s.number (block_at k.blocks s.block) ≡ true
  pub cell : s.cell < cell_count (records_in k.blocks s.block)
  pub to_read : k.to_read ≡ drop (cells_above s.number k.blocks s.block + s.cell) (places s.number k.blocks)
  pub rail : s.rail ≡ (block_at k.blocks s.block).rail
  pub small : s.rail < 2 ^ (cell_at (records_in k.blocks s.block) s.cell).upper
  pub later : (b : ℕ) → s.block < b → b < length k.blocks → is_due s.number (block_at k.blocks b) ≡ true → (block_at k.blocks b).rail ≡ 0
  pub words : (b : ℕ) → b < length k.blocks → is_due s.number (block_at k.blocks b) ≡ true
      → SameInputs (get_or s.words b 0) (block_at k.blocks b).word

pub record Related (S m : ℕ) (s : State) (k : Book) : Type 0 where
  pub limit : s.bank.limit ≡ S
  pub range : within 1 255 S ≡ true
  pub few : length k.blocks ≤ 8
  pub count : s.bank.count ≡ length k.blocks
  pub lengths : length s.bank.lengths ≡ 8
  pub records : length s.bank.records ≡ 640
  pub periods : length s.bank.periods ≡ 8
  pub phases : length s.bank.phases ≡ 8
  pub outputs : length s.scan.outputs ≡ 64
  pub rows : length s.rows ≡ m
  pub number : s.scan.number < 8
  pub next : number_after s.scan.number ≡ k.next
  pub cells : (n : ℕ) → n < 8 → cells_above n k.blocks (length k.blocks) ≤ S
  pub most : rows_above k.blocks (length k.blocks) ≤ 32768
  pub fits : room two_bytes (rows_above k.blocks (length k.blocks)) ≤ m
  pub blocks : (b : ℕ) → b < length k.blocks → SameBlock s k.blocks b
  pub rests : s.scan.running ≡ false → k.to_read ≡ []
  pub runs : s.scan.running ≡ true → Stands s.scan k

-- a call is answered alike, and what it leaves is related
pub record Match (S m : ℕ) (a : After State) (r : After Book) : Type 0 where
  pub answers : a.answer ≡ r.answer
  pub related : Related S m a.state r.state

pub cells_in_lem : (n : ℕ) (bs : List Block) → cells_in n bs ≡ cells_above n bs (length bs)
unfolding cells_in
cells_in_lem n bs = refl

pub rows_in_lem : (bs : List Block) → rows_in bs ≡ rows_above bs (length bs)
unfolding rows_in
rows_in_lem bs = refl

module _ (S m : ℕ) (s : State) (k : Book) (h : Related S m s k) where
  abbrev bs : List Block
  bs = k.blocks

  abbrev n : ℕ
  n = length k.blocks

  -- the bank counts the cells and the rows of the book's blocks
  pub due-same : (c b : ℕ) → b < n → due_at s.bank c b ≡ is_due c (block_at bs b)
  unfolding due_at is_due
  due-same c b l = ap₂ (λ (p f : ℕ). due p f c) (h.blocks b l).period (h.blocks b l).phase

  pub cells_before_lem : (c b : ℕ) → b ≤ n → cells_before s.bank c b ≡ cells_above c bs b
  unfolding cells_before cells_due due_cells_of
  cells_before_lem c b l =
      sum_ext (cells_due s.bank c) (λ i. due_cells_of c (block_at bs i)) b
      (λ i p.
      let q = h.blocks i (omega arith) in
      ap₂ (λ (p f : ℕ). due_cells p f c (records_of s.bank i)) q.period q.phase
      ∙ ap (due_cells (block_at bs i).period (block_at bs i).phase c) q.records)

  pub rows_before_lem : (b : ℕ) → b ≤ n → rows_before s.bank b ≡ rows_above bs b
  unfolding rows_before
  rows_before_lem b l =
      sum_ext (λ i. row_count (records_of s.bank i)) (λ i. row_count (records_in bs i)) b (λ i p. ap row_count (h.blocks i (omega arith)).records)

  pub cells-held : (c : ℕ) → cells_held s.bank c ≡ cells_above c bs n
  cells-held c = ap (cells_before s.bank c) h.count ∙ cells_before_lem c n (omega arith)

  pub rows-held : rows_held s.bank ≡ rows_above bs n
  rows-held = ap (rows_before s.bank) h.count ∙ rows_before_lem n (omega arith)

  pub records-formed : (b : ℕ) → b < n → records_formed (records_in bs b) ≡ true
  records-formed b l = formed-records (records_in bs b) (block_at bs b).rows (h.blocks b l).well

  block-formed : (b : ℕ) → b < s.bank.count → block_formed s.bank b ≡ true
  unfolding block_formed
  block-formed b l =
      let p : b < n = omega (arith, h.count) in
      let q = h.blocks b p in
      and_join (and_join q.size (ap records_formed q.records ∙ records-formed b p)) (ap₂ timed q.period q.phase ∙ q.timing)

  bank-formed : bank_formed s.bank ≡ true
  unfolding bank_formed
  bank-formed =
      and_join
      (and_join
      (and_join (and_join (ap (within 1 255) h.limit ∙ h.range) (le-leb s.bank.count 8 (omega (arith, h.count, h.few))))
      (every_of (block_formed s.bank) s.bank.count block-formed))
      (every_of (λ c. leb (cells_held s.bank c) s.bank.limit) 8
      (λ c l. le-leb (cells_held s.bank c) s.bank.limit (omega (arith, cells-held c, h.limit, h.cells c l)))))
      (le-leb (rows_held s.bank) 32768 (omega (arith, rows-held, h.most)))

  scan-formed : scan_formed s.bank s.scan ≡ true
  unfolding scan_formed
  scan-formed = by s.scan.running refl
    where
      low : leb s.scan.number 7 ≡ true
      low = le-leb s.scan.number 7 (omega (arith, h.number))

      by : (r : Bool) → s.scan.running ≡ r → scan_formed s.bank s.scan ≡ true
      by false e = rw (e, low) refl
      by true e =
          let q = h.runs e in
          rw (e, low, (h.blocks s.scan.block q.block).records)
          (and_join
          (and_join
          (and_join (lt-ltb s.scan.block s.bank.count (omega (arith, q.block, h.count)))
          (due-same s.scan.number s.scan.block q.block ∙ q.due_now))
          (lt-ltb s.scan.cell (cell_count (records_in bs s.scan.block)) q.cell))
          (lt-ltb s.scan.rail (2 ^ (cell_at (records_in bs s.scan.block) s.scan.cell).upper) q.small))

  pub all-formed : formed s.bank s.scan ≡ true
  unfolding formed
  all-formed = and_join bank-formed scan-formed

  pub same-outputs : outputs_held s ≡ outputs_in_book k
  unfolding outputs_held outputs_in_book
  same-outputs =
      let os : List (List ℕ) = map (λ (b : Block). b.outputs) bs in
      ap (λ (c : ℕ). tab c (outputs_of s.scan)) h.count
      ∙ tab_ext (outputs_of s.scan) (λ b. get_or os b []) n (λ b l. (h.blocks b l).outputs ∙ sym (map_at (λ (b : Block). b.outputs) bs no_block [] b l))
      ∙ ap (λ (c : ℕ). tab c (λ b. get_or os b [])) (sym (length-map bs (λ (b : Block). b.outputs))) ∙ tab_of [] os
