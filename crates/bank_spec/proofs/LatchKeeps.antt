-- A latch and steps keep each block's records, rows, period and phase, and so the cells, the places to read and which inputs are unread.
-- Assumes nothing.
use mathlib.Core.Path.{◌≡◌, refl, sym, ◌∙◌, ap, ap₂, subst}
use mathlib.Core.Bool.{true, false}
use mathlib.Core.List.{List, [], ◌∷◌, ◌++◌}
use Prim.Native.Nat.{ℕ, zero, suc, ◌<◌, ◌≤◌}
use native.Mathlib.Numerals.{add-one}
use native.Mathlib.Omega.{arith}
use lib.ListN.{length, get_or, set, drop, length-set, get_or-eq_default, get_or-map}
use lib.Seq.{map-set_same, drop-drop}
use Rattle.laws.specs.Tests.{sum}
use Rattle.laws.specs.Lists.{tab, joined}
use Rattle.laws.proofs.Cases.{by_less, cond_yes, cond_no, cond_both}
use Rattle.laws.proofs.Counts.{sum_ext}
use Rattle.laws.proofs.Lists.{length-tab, get_or-tab}
use Rattle.sheet_spec.specs.Job.{Job}
use Rattle.stored_spec.specs.StoredForm.{cell_at, row_count}
use Rattle.stored_spec.specs.Run.{AgreeOn}
use Rattle.bank_spec.specs.Due.{due, due_cells}
use Rattle.bank_spec.specs.Book.{Block, Place, Book, no_block, block_at, is_due, due_cells_of, cells_in, rows_in, wiped, places, latched_to, book_latch, read_cell, read_first, book_step}
use Rattle.bank_spec.specs.Demand3.{CompiledBy, OnlyUnread}
use Rattle.bank_spec.proofs.Scans.{in_scan, read_in, stepped, scanned}

-- the same records, rows, period and phase, block by block
pub record Kept (bs cs : List Block) : Type 0 where
  pub long : length bs ≡ length cs
  pub records : (b : ℕ) → (block_at bs b).records ≡ (block_at cs b).records
  pub rows : (b : ℕ) → (block_at bs b).rows ≡ (block_at cs b).rows
  pub period : (b : ℕ) → (block_at bs b).period ≡ (block_at cs b).period
  pub phase : (b : ℕ) → (block_at bs b).phase ≡ (block_at cs b).phase

pub kept_back : (bs cs : List Block) → Kept bs cs → Kept cs bs
kept_back bs cs k =
    record {
      long = sym k.long;
      records = λ b. sym (k.records b);
      rows = λ b. sym (k.rows b);
      period = λ b. sym (k.period b);
      phase = λ b. sym (k.phase b);
    }

pub kept_on : (bs cs ds : List Block) → Kept bs cs → Kept cs ds → Kept bs ds
kept_on bs cs ds k l =
    record {
      long = k.long ∙ l.long;
      records = λ b. k.records b ∙ l.records b;
      rows = λ b. k.rows b ∙ l.rows b;
      period = λ b. k.period b ∙ l.period b;
      phase = λ b. k.phase b ∙ l.phase b;
    }

joined_ext : {A : Type 0} (f g : ℕ → List A) (n : ℕ) → ((i : ℕ) → i < n → f i ≡ g i) → joined n f ≡ joined n g
joined_ext f g zero h = refl
joined_ext f g (suc n) h = ap₂ (λ (a b : List _). a ++ b) (joined_ext f g n (λ i p. h i (omega arith))) (h n (omega arith))

-- the places of block b, by the number of its due cells
abbrev places_by : ℕ → ℕ → List Place
places_by b n = tab n (λ c. record { block = b; cell = c })

module _ (bs cs : List Block) (k : Kept bs cs) where
  pub kept-due : (n b : ℕ) → is_due n (block_at bs b) ≡ is_due n (block_at cs b)
  unfolding is_due
  kept-due n b = ap₂ (λ (p f : ℕ). due p f n) (k.period b) (k.phase b)

  pub kept-due_cells : (n b : ℕ) → due_cells_of n (block_at bs b) ≡ due_cells_of n (block_at cs b)
  unfolding due_cells_of
  kept-due_cells n b =
      ap₂ (λ (p f : ℕ). due_cells p f n (block_at bs b).records) (k.period b) (k.phase b)
      ∙ ap (due_cells (block_at cs b).period (block_at cs b).phase n) (k.records b)

  pub kept-cells : (n : ℕ) → cells_in n bs ≡ cells_in n cs
  unfolding cells_in
  kept-cells n =
      ap (λ (m : ℕ). sum m (λ b. due_cells_of n (block_at bs b))) k.long
      ∙ sum_ext (λ b. due_cells_of n (block_at bs b)) (λ b. due_cells_of n (block_at cs b)) (length cs) (λ b h. kept-due_cells n b)

  pub kept-rows : rows_in bs ≡ rows_in cs
  unfolding rows_in
  kept-rows =
      ap (λ (n : ℕ). sum n (λ b. row_count (block_at bs b).records)) k.long
      ∙ sum_ext (λ b. row_count (block_at bs b).records) (λ b. row_count (block_at cs b).records) (length cs) (λ b h. ap row_count (k.records b))

  pub kept-places : (n : ℕ) → places n bs ≡ places n cs
  unfolding places
  kept-places n =
      ap (λ (m : ℕ). joined m (λ b. places_by b (due_cells_of n (block_at bs b)))) k.long
      ∙ joined_ext (λ b. places_by b (due_cells_of n (block_at bs b))) (λ b. places_by b (due_cells_of n (block_at cs b))) (length cs)
      (λ b h. ap (places_by b) (kept-due_cells n b))

  pub kept_unread : (ws vs : List ℕ) (ps : List Place) → OnlyUnread bs ws vs ps → OnlyUnread cs ws vs ps
  kept_unread ws vs [] h = tt
  kept_unread ws vs (p ∷ ps) h = (
    subst (λ (R : List ℕ). AgreeOn (cell_at R p.cell).ins (get_or ws p.block 0) (get_or vs p.block 0)) (k.records p.block) h.0,
    kept_unread ws vs ps h.1,
  )

  pub kept-compiled : (j : Job) (s : List ℕ) (b : ℕ) → CompiledBy j s (block_at bs b) → CompiledBy j s (block_at cs b)
  kept-compiled j s b c =
      record {
        nodes = c.nodes;
        records = c.records;
        rows = c.rows;
        totals = c.totals;
        accepted = c.accepted;
        records_written = sym (k.records b) ∙ c.records_written;
        rows_written = sym (k.rows b) ∙ c.rows_written;
      }

-- a latch
module _ (k : Book) (ws : List ℕ) where
  abbrev latched_at : ℕ → Block
  latched_at b = latched_to k.next (get_or ws b 0) (block_at k.blocks b)

  -- what wiping keeps of a block, a latch keeps
  latched_at_lem : {A : Type 0} (f : Block → A) → ((w : ℕ) (B : Block) → f (wiped w B) ≡ f B)
      → (b : ℕ) → f (block_at (book_latch k ws).state.blocks b) ≡ f (block_at k.blocks b)
  unfolding book_latch latched_to
  latched_at_lem f same b =
      let B = block_at k.blocks b in
      by_less b (length k.blocks)
      (λ l.
      ap f (get_or-tab latched_at no_block (length k.blocks) b l)
      ∙ cond_both (λ (x : Block). f x ≡ f B) (is_due k.next B) (same (get_or ws b 0) B) refl)
      (λ l.
      ap f
      (get_or-eq_default (tab (length k.blocks) latched_at) no_block {n = b} (omega (arith, l, length-tab latched_at (length k.blocks)))
      ∙ sym (get_or-eq_default k.blocks no_block {n = b} l)))

  pub latch-length : length (book_latch k ws).state.blocks ≡ length k.blocks
  unfolding book_latch
  latch-length = length-tab latched_at (length k.blocks)

  pub latch-records : (b : ℕ) → (block_at (book_latch k ws).state.blocks b).records ≡ (block_at k.blocks b).records
  unfolding wiped
  latch-records b = latched_at_lem {A = List ℕ} (λ (B : Block). B.records) (λ w B. refl) b

  pub latch-rows : (b : ℕ) → (block_at (book_latch k ws).state.blocks b).rows ≡ (block_at k.blocks b).rows
  unfolding wiped
  latch-rows b = latched_at_lem {A = List ℕ} (λ (B : Block). B.rows) (λ w B. refl) b

  -- a due block is wiped and has the word latched; one that isn't due is as it was
  pub latch-due : (b : ℕ) → b < length k.blocks → is_due k.next (block_at k.blocks b) ≡ true
      → block_at (book_latch k ws).state.blocks b ≡ wiped (get_or ws b 0) (block_at k.blocks b)
  unfolding book_latch latched_to
  latch-due b l e =
      let B = block_at k.blocks b in
      get_or-tab latched_at no_block (length k.blocks) b l ∙ cond_yes (is_due k.next B) (wiped (get_or ws b 0) B) B e

  pub latch-not_due : (b : ℕ) → b < length k.blocks → is_due k.next (block_at k.blocks b) ≡ false
      → block_at (book_latch k ws).state.blocks b ≡ block_at k.blocks b
  unfolding book_latch latched_to
  latch-not_due b l e =
      let B = block_at k.blocks b in
      get_or-tab latched_at no_block (length k.blocks) b l ∙ cond_no (is_due k.next B) (wiped (get_or ws b 0) B) B e

  pub latch-word : (b : ℕ) → b < length k.blocks → is_due k.next (block_at k.blocks b) ≡ true
      → (block_at (book_latch k ws).state.blocks b).word ≡ get_or ws b 0
  unfolding wiped
  latch-word b l e = ap (λ (B : Block). B.word) (latch-due b l e)

  latch-period : (b : ℕ) → (block_at (book_latch k ws).state.blocks b).period ≡ (block_at k.blocks b).period
  unfolding wiped
  latch-period b = latched_at_lem {A = ℕ} (λ (B : Block). B.period) (λ w B. refl) b

  latch-phase : (b : ℕ) → (block_at (book_latch k ws).state.blocks b).phase ≡ (block_at k.blocks b).phase
  unfolding wiped
  latch-phase b = latched_at_lem {A = ℕ} (λ (B : Block). B.phase) (λ w B. refl) b

  pub latch-kept : Kept (book_latch k ws).state.blocks k.blocks
  latch-kept =
      record { long = latch-length; records = latch-records; rows = latch-rows; period = latch-period; phase = latch-phase }

  pub latch-cells : (n : ℕ) → cells_in n (book_latch k ws).state.blocks ≡ cells_in n k.blocks
  latch-cells n = kept-cells (book_latch k ws).state.blocks k.blocks latch-kept n

  pub latch-places : (n : ℕ) → places n (book_latch k ws).state.blocks ≡ places n k.blocks
  latch-places n = kept-places (book_latch k ws).state.blocks k.blocks latch-kept n

  -- unread in the latched blocks, unread in those before, and back
  pub latch_unread : (us vs : List ℕ) (ps : List Place) → OnlyUnread (book_latch k ws).state.blocks us vs ps → OnlyUnread k.blocks us vs ps
  latch_unread us vs ps h = kept_unread (book_latch k ws).state.blocks k.blocks latch-kept us vs ps h

  pub unread_latch : (us vs : List ℕ) (ps : List Place) → OnlyUnread k.blocks us vs ps → OnlyUnread (book_latch k ws).state.blocks us vs ps
  unread_latch us vs ps h =
      kept_unread k.blocks (book_latch k ws).state.blocks (kept_back (book_latch k ws).state.blocks k.blocks latch-kept) us vs ps h

-- what a read keeps of a block, a step and n steps keep
module _ {A : Type 0} (f : Block → A) (same : (B : Block) (c : ℕ) → f (read_cell B c) ≡ f B) where
  step_at : (k : Book) (ps : List Place) (b : ℕ) → f (block_at (read_first k ps).state.blocks b) ≡ f (block_at k.blocks b)
  unfolding read_first
  step_at k [] b = refl
  step_at k (p ∷ ps) b =
      let bs = k.blocks in
      let B = read_cell (block_at bs p.block) p.cell in
      sym (get_or-map f (set bs p.block B) b no_block)
      ∙ ap (λ (l : List A). get_or l b (f no_block)) (map-set_same f bs p.block B no_block (same (block_at bs p.block) p.cell))
      ∙ get_or-map f bs b no_block

  stepped_at : (n : ℕ) (k : Book) (b : ℕ) → f (block_at (stepped n k).blocks b) ≡ f (block_at k.blocks b)
  unfolding stepped book_step
  stepped_at zero k b = refl
  stepped_at (suc n) k b = step_at (stepped n k) (stepped n k).to_read b ∙ stepped_at n k b

step-length : (k : Book) (ps : List Place) → length (read_first k ps).state.blocks ≡ length k.blocks
unfolding read_first
step-length k [] = refl
step-length k (p ∷ ps) = length-set k.blocks p.block (read_cell (block_at k.blocks p.block) p.cell)

pub stepped_length : (n : ℕ) (k : Book) → length (stepped n k).blocks ≡ length k.blocks
unfolding stepped book_step
stepped_length zero k = refl
stepped_length (suc n) k = step-length (stepped n k) (stepped n k).to_read ∙ stepped_length n k

pub stepped_records : (n : ℕ) (k : Book) (b : ℕ) → (block_at (stepped n k).blocks b).records ≡ (block_at k.blocks b).records
unfolding read_cell
stepped_records n k b = stepped_at {A = List ℕ} (λ (B : Block). B.records) (λ B c. refl) n k b

pub stepped_rows : (n : ℕ) (k : Book) (b : ℕ) → (block_at (stepped n k).blocks b).rows ≡ (block_at k.blocks b).rows
unfolding read_cell
stepped_rows n k b = stepped_at {A = List ℕ} (λ (B : Block). B.rows) (λ B c. refl) n k b

pub stepped_word : (n : ℕ) (k : Book) (b : ℕ) → (block_at (stepped n k).blocks b).word ≡ (block_at k.blocks b).word
unfolding read_cell
stepped_word n k b = stepped_at {A = ℕ} (λ (B : Block). B.word) (λ B c. refl) n k b

stepped_period : (n : ℕ) (k : Book) (b : ℕ) → (block_at (stepped n k).blocks b).period ≡ (block_at k.blocks b).period
unfolding read_cell
stepped_period n k b = stepped_at {A = ℕ} (λ (B : Block). B.period) (λ B c. refl) n k b

stepped_phase : (n : ℕ) (k : Book) (b : ℕ) → (block_at (stepped n k).blocks b).phase ≡ (block_at k.blocks b).phase
unfolding read_cell
stepped_phase n k b = stepped_at {A = ℕ} (λ (B : Block). B.phase) (λ B c. refl) n k b

pub stepped_kept : (n : ℕ) (k : Book) → Kept (stepped n k).blocks k.blocks
stepped_kept n k =
    record {
      long = stepped_length n k;
      records = stepped_records n k;
      rows = stepped_rows n k;
      period = stepped_period n k;
      phase = stepped_phase n k;
    }

-- the number of the next scan is kept
step-next : (k : Book) (ps : List Place) → (read_first k ps).state.next ≡ k.next
unfolding read_first
step-next k [] = refl
step-next k (p ∷ ps) = refl

pub stepped_next : (n : ℕ) (k : Book) → (stepped n k).next ≡ k.next
unfolding stepped book_step
stepped_next zero k = refl
stepped_next (suc n) k = step-next (stepped n k) (stepped n k).to_read ∙ stepped_next n k

-- what is left to read after n steps
step_left : (k : Book) (ps : List Place) → k.to_read ≡ ps → (read_first k ps).state.to_read ≡ drop 1 ps
unfolding read_first
step_left k [] e = e
step_left k (p ∷ ps) e = refl

pub stepped_left : (n : ℕ) (k : Book) → (stepped n k).to_read ≡ drop n k.to_read
unfolding stepped book_step
stepped_left zero k = refl
stepped_left (suc n) k =
    step_left (stepped n k) (stepped n k).to_read refl ∙ ap (λ (l : List Place). drop 1 l) (stepped_left n k) ∙ drop-drop 1 n k.to_read
    ∙ ap (λ (i : ℕ). drop i k.to_read) (add-one n)

-- block b after a latch and s steps
pub scanned_at : (k : Book) (ws : List ℕ) (s b : ℕ) → s ≤ cells_in k.next k.blocks → b < length k.blocks
    → block_at (stepped s (book_latch k ws).state).blocks b
    ≡ in_scan k.next (block_at k.blocks b) (get_or ws b 0) (read_in k.next k.blocks s b)
scanned_at k ws s b l h =
    ap (λ (x : Book). block_at x.blocks b) (scanned k ws s l)
    ∙ get_or-tab (λ b. in_scan k.next (block_at k.blocks b) (get_or ws b 0) (read_in k.next k.blocks s b)) no_block (length k.blocks) b h
