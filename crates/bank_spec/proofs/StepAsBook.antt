-- A step is answered as in the book, and keeps the relation.
-- Assumes nothing.
use mathlib.Core.Path.{◌≡◌, refl, sym, ◌∙◌, ap, ap₂}
use mathlib.Core.Logic.{◌≢◌}
use mathlib.Core.Bool.{Bool, true, false, cond, not, false≢true, true≢false}
use mathlib.Core.List.{List, [], ◌∷◌}
use Prim.Native.Nat.{ℕ, suc, ◌+◌, ◌*◌, ◌/◌, ◌^◌, ◌<◌, ◌≤◌}
use native.Mathlib.Nat.{mod-lt}
use native.Mathlib.Numerals.{add-one}
use native.Mathlib.Omega.{arith}
use lib.Dec.{ltb}
use lib.Pow.{pow_pos}
use lib.ListN.{length, get_or, set, take, drop, length-set, length-take, length-drop}
use lib.Seq.{get_or-set_same, get_or-set_other, drop-cons, drop-length}
use borrow.Author.Tests.{le-ltb, ltb-true, ltb-false}
use Rattle.laws.specs.Bits.{bit}
use Rattle.laws.specs.Lists.{written}
use Rattle.laws.proofs.Cases.{by_test, by_less, by_equal, cond_yes, cond_no}
use Rattle.laws.proofs.Counts.{sum_ext, sum_at}
use Rattle.laws.proofs.Filled.{length-written}
use Rattle.stored_spec.specs.RowBytes.{two_bytes, row_value, room}
use Rattle.stored_spec.specs.StoredForm.{well_formed, cell_count, cell_at, row_count}
use Rattle.stored_spec.specs.Run.{row_place, outputs_after, rail_after}
use Rattle.stored_spec.proofs.Promises.{some-cell, rails_follow, row_within, same_place, set-length}
use Rattle.bank_spec.specs.Due.{timed, number_after}
use Rattle.bank_spec.specs.State.{State, Scan, records_of, next_due, rows_before, rows_held, formed}
use Rattle.bank_spec.specs.Calls.{idle, went, After, scan_at, scan_from, next_row, outputs_of, moved, step}
use Rattle.bank_spec.specs.Book.{Block, Place, Book, no_block, block_at, is_due, due_cells_of, places, read_cell, read_first, book_step}
use Rattle.bank_spec.proofs.Scans.{cells_above, no_place, length-places, place_of, due-cells}
use Rattle.bank_spec.proofs.LatchKeeps.{Kept, kept-due, kept-due_cells, kept-places}
use Rattle.bank_spec.proofs.NextDue.{skipped_to, skipped_due, skipped_cells, next-from}
use Rattle.laws.proofs.Parts.{part, part_before, part_written, part_after}
use Rattle.bank_spec.proofs.Related.{records_in, rows_above, SameBlock, Stands, Related, Match, cells_in_lem, rows_before_lem, rows-held, records-formed, all-formed}

-- the cells from place (b, c) on
module _ (n : ℕ) (bs : List Block) where
  all-cells : length (places n bs) ≡ cells_above n bs (length bs)
  all-cells = length-places n bs ∙ cells_in_lem n bs

  place_next : (b c : ℕ) → b < length bs → c < due_cells_of n (block_at bs b)
      → drop (cells_above n bs b + c) (places n bs) ≡ record { block = b; cell = c } ∷ drop (suc (cells_above n bs b + c)) (places n bs)
  place_next b c l p =
      let at = cells_above n bs b + c in
      drop-cons (places n bs) at no_place (omega (arith, all-cells, sum_at (λ i. due_cells_of n (block_at bs i)) (length bs) b l))
      ∙ ap (λ (q : Place). q ∷ drop (suc at) (places n bs)) (place_of n bs b c l p)

-- the outputs of all places after those of place b become vs
module _ (l : List ℕ) (b : ℕ) (vs : List ℕ) (size : length vs ≡ 8) (fits : b * 8 + length vs ≤ length l) where
  outputs_here : part (b * 8) 8 (written l (b * 8) vs) ≡ vs
  outputs_here = ap (λ (n : ℕ). part (b * 8) n (written l (b * 8) vs)) (sym size) ∙ part_written l (b * 8) vs fits

  outputs_there : (a : ℕ) → a ≢ b → part (a * 8) 8 (written l (b * 8) vs) ≡ part (a * 8) 8 l
  outputs_there a o =
      by_less a b (λ p. part_before l (b * 8) vs fits (a * 8) 8 (omega arith))
      (λ p. by_less b a (λ q. part_after l (b * 8) vs fits (a * 8) 8 (omega arith)) (λ q. absurd (o (omega arith))))

-- the next cell is read while a scan runs
module _ (S m : ℕ) (s : State) (k : Book) (h : Related S m s k) (on : s.scan.running ≡ true) where
  abbrev bs : List Block
  bs = k.blocks

  abbrev n : ℕ
  n = length k.blocks

  abbrev q : Stands s.scan k
  q = h.runs on

  abbrev b : ℕ
  b = s.scan.block

  abbrev c : ℕ
  c = s.scan.cell

  abbrev R : List ℕ
  R = records_in bs b

  -- the row that the book reads
  abbrev x : ℕ
  x = row_value two_bytes (block_at bs b).rows (row_place R c (block_at bs b).rail (block_at bs b).word)

  abbrev bs' : List Block
  bs' = set bs b (read_cell (block_at bs b) c)

  -- the number of the scan, how many cells it has read, and the next block that is due
  abbrev z : ℕ
  z = s.scan.number

  abbrev j : ℕ
  j = cells_above z bs b + c

  abbrev d : ℕ
  d = next_due s.bank z (b + 1)

  abbrev k' : Book
  k' = record { blocks = bs'; to_read = drop (suc j) (places z bs); next = k.next }

  own_cells : due_cells_of z (block_at bs b) ≡ cell_count R
  own_cells = due-cells z (block_at bs b) q.due_now

  in_bank : records_of s.bank b ≡ R
  in_bank = (h.blocks b q.block).records

  next_row_lem : next_row s.bank s.scan s.rows ≡ x
  unfolding next_row
  next_row_lem =
      let w = get_or s.scan.words b 0 in
      ap (λ (R : List ℕ). row_value two_bytes s.rows (rows_before s.bank b + row_place R c s.scan.rail w)) in_bank
      ∙ ap₂ (λ (y z : ℕ). row_value two_bytes s.rows (y + z)) (rows_before_lem S m s k h b (omega (arith, q.block)))
      (same_place R (records-formed S m s k h b q.block) c s.scan.rail w (block_at bs b).word (q.words b q.block q.due_now)
      ∙ ap (λ (r : ℕ). row_place R c r (block_at bs b).word) q.rail)
      ∙ (h.blocks b q.block).rows (row_place R c (block_at bs b).rail (block_at bs b).word)
      (row_within R c (block_at bs b).rail (block_at bs b).word q.cell (rw q.rail at q.small))

  left : k.to_read ≡ record { block = b; cell = c } ∷ drop (suc j) (places z bs)
  left = q.to_read ∙ place_next z bs b c q.block (omega (arith, own_cells, q.cell))

  here : block_at bs' b ≡ read_cell (block_at bs b) c
  here = get_or-set_same bs b (read_cell (block_at bs b) c) no_block q.block

  there : (a : ℕ) → a ≢ b → block_at bs' a ≡ block_at bs a
  there a o = get_or-set_other bs b a (read_cell (block_at bs b) c) no_block o

  same_length : length bs' ≡ n
  same_length = length-set bs b (read_cell (block_at bs b) c)

  -- what a read keeps of each block
  keeps : {A : Type 0} (f : Block → A) → f (read_cell (block_at bs b) c) ≡ f (block_at bs b) → (a : ℕ) → f (block_at bs' a) ≡ f (block_at bs a)
  keeps f e a =
      by_equal a b (λ p. ap (λ (i : ℕ). f (block_at bs' i)) p ∙ ap f here ∙ e ∙ ap (λ (i : ℕ). f (block_at bs i)) (sym p)) (λ o. ap f (there a o))

  same-records : (a : ℕ) → records_in bs' a ≡ records_in bs a
  unfolding read_cell
  same-records = keeps (λ (y : Block). y.records) refl

  same_rows : (a : ℕ) → (block_at bs' a).rows ≡ (block_at bs a).rows
  unfolding read_cell
  same_rows = keeps (λ (y : Block). y.rows) refl

  same_word_lem : (a : ℕ) → (block_at bs' a).word ≡ (block_at bs a).word
  unfolding read_cell
  same_word_lem = keeps (λ (y : Block). y.word) refl

  same-period : (a : ℕ) → (block_at bs' a).period ≡ (block_at bs a).period
  unfolding read_cell
  same-period = keeps (λ (y : Block). y.period) refl

  same-phase : (a : ℕ) → (block_at bs' a).phase ≡ (block_at bs a).phase
  unfolding read_cell
  same-phase = keeps (λ (y : Block). y.phase) refl

  same_kept : Kept bs' bs
  same_kept = record { long = same_length; records = same-records; rows = same_rows; period = same-period; phase = same-phase }

  same-due : (a : ℕ) → is_due z (block_at bs' a) ≡ is_due z (block_at bs a)
  same-due a = kept-due bs' bs same_kept z a

  same_total : (a : ℕ) → rows_above bs' a ≡ rows_above bs a
  same_total a = sum_ext (λ i. row_count (records_in bs' i)) (λ i. row_count (records_in bs i)) a (λ i p. ap row_count (same-records i))

  same-cells : (i a : ℕ) → cells_above i bs' a ≡ cells_above i bs a
  same-cells i a =
      sum_ext (λ y. due_cells_of i (block_at bs' y)) (λ y. due_cells_of i (block_at bs y)) a (λ y p. kept-due_cells bs' bs same_kept i y)

  same-places : places z bs' ≡ places z bs
  same-places = kept-places bs' bs same_kept z

  -- the outputs after the read
  abbrev set_now : List ℕ
  set_now = outputs_after (cell_at R c) (outputs_of s.scan b) x

  abbrev outs : List ℕ
  outs = written s.scan.outputs (b * 8) set_now

  eight : length set_now ≡ 8
  unfolding outputs_after outputs_of
  eight =
      let size : length (take 8 (drop (b * 8) s.scan.outputs)) ≡ 8 =
      simp (length-take, length-drop) (omega (arith, q.block, h.few, h.outputs)) in
      set-length (outputs_of s.scan b) (cell_at R c).outs (x / 2 ^ (cell_at R c).lower) ∙ size

  outs_fit : b * 8 + length set_now ≤ length s.scan.outputs
  outs_fit = omega (arith, eight, q.block, h.few, h.outputs)

  part_outs : (a : ℕ) → a < n → part (a * 8) 8 outs ≡ (block_at bs' a).outputs
  unfolding outputs_of read_cell
  part_outs a l =
      by_equal a b
      (λ p.
      ap (λ (i : ℕ). part (i * 8) 8 outs) p ∙ outputs_here s.scan.outputs b set_now eight outs_fit
      ∙ ap (λ (o : List ℕ). outputs_after (cell_at R c) o x) (h.blocks b q.block).outputs ∙ ap (λ (y : Block). y.outputs) (sym here)
      ∙ ap (λ (i : ℕ). (block_at bs' i).outputs) (sym p))
      (λ o.
      outputs_there s.scan.outputs b set_now eight outs_fit a o ∙ (h.blocks a l).outputs ∙ ap (λ (y : Block). y.outputs) (sym (there a o)))

  -- a scan state with these outputs, that stands where the book does
  module _ (scan : Scan) (o : scan.outputs ≡ outs) where
    abbrev t : State
    t = record { bank = s.bank; scan = scan; rows = s.rows }

    moved-block : (a : ℕ) → a < n → SameBlock t bs' a
    unfolding outputs_of
    moved-block a l =
        let e = h.blocks a l in
        record {
          size = e.size;
          records = e.records ∙ sym (same-records a);
          period = e.period ∙ sym (same-period a);
          phase = e.phase ∙ sym (same-phase a);
          timing = ap₂ timed (same-period a) (same-phase a) ∙ e.timing;
          well = ap₂ well_formed (same-records a) (same_rows a) ∙ e.well;
          rows =
              λ i p.
              let p' : i < row_count (records_in bs a) = rw (same-records a) at p in
              ap (λ (y : ℕ). row_value two_bytes s.rows (y + i)) (same_total a) ∙ e.rows i p' ∙ ap (λ (y : List ℕ). row_value two_bytes y i) (sym (same_rows a));
          outputs = ap (part (a * 8) 8) o ∙ part_outs a l;
        }

    moved_on : scan.number ≡ z → (scan.running ≡ false → k'.to_read ≡ []) → (scan.running ≡ true → Stands scan k') → Related S m t k'
    moved_on w f g =
        record {
          limit = h.limit;
          range = h.range;
          few = omega (arith, same_length, h.few);
          count = h.count ∙ sym same_length;
          lengths = h.lengths;
          records = h.records;
          periods = h.periods;
          phases = h.phases;
          outputs = ap (λ (y : List ℕ). length y) o ∙ length-written s.scan.outputs (b * 8) set_now outs_fit ∙ h.outputs;
          rows = h.rows;
          number = omega (arith, w, h.number);
          next = ap number_after w ∙ h.next;
          cells = λ i l. omega (arith, ap (cells_above i bs') same_length, same-cells i n, h.cells i l);
          most = omega (arith, ap (rows_above bs') same_length, same_total n, h.most);
          fits = omega (arith, ap (λ (x : ℕ). room two_bytes (rows_above bs' x)) same_length, ap (room two_bytes) (same_total n), h.fits);
          blocks = λ a l. moved-block a (omega (arith, same_length));
          rests = f;
          runs = g;
        }

  -- the scan state left, by whether the block has a cell more, and a later block is due
  abbrev left_by : Bool → Bool → Scan
  left_by more next =
      cond more (scan_at true b (c + 1) (rail_after (cell_at R c) x) z s.scan.words outs)
      (cond next (scan_at true d 0 0 z s.scan.words outs) (scan_at false 0 0 0 z s.scan.words outs))

  next-cell : c + 1 < cell_count R → Stands (left_by true true) k'
  unfolding rail_after read_cell
  next-cell l =
      record {
        block = omega (arith, same_length, q.block);
        due_now = same-due b ∙ q.due_now;
        cell = rw (same-records b) l;
        to_read =
            let e : suc j ≡ cells_above z bs' b + (c + 1) = omega (arith, same-cells z b) in
            ap₂ (λ (i : ℕ) (ps : List Place). drop i ps) e (sym same-places);
        rail = ap (λ (y : Block). y.rail) (sym here);
        small =
            let e : (cell_at (records_in bs' b) (c + 1)).upper ≡ (cell_at R c).lower =
            ap₂ (λ (y : List ℕ) (i : ℕ). (cell_at y i).upper) (same-records b) (add-one c)
            ∙ rails_follow R (records-formed S m s k h b q.block) c (omega arith) in
            rw e (mod-lt x (pow_pos (cell_at R c).lower));
        later =
            λ a u v g.
            ap (λ (y : Block). y.rail) (there a (λ p. omega arith)) ∙ q.later a u (omega (arith, same_length)) (sym (same-due a) ∙ g);
        words =
            λ a u g i p.
            q.words a (omega (arith, same_length)) (sym (same-due a) ∙ g) i p ∙ ap (λ (w : ℕ). bit w i) (sym (same_word_lem a));
      }

  block-after : b + 1 ≤ n
  block-after = omega (arith, q.block)

  -- all cells of this block are read, and none between it and the next
  cells_done : cell_count R ≤ c + 1 → suc j ≡ cells_above z bs d
  cells_done l =
      omega (arith, skipped_cells S m s k h z (b + 1) block-after, ap (cells_above z bs) (add-one b), own_cells, q.cell)

  next-block : cell_count R ≤ c + 1 → d < n → Stands (left_by false true) k'
  next-block l g =
      let after : b + 1 ≤ d = next-from s.bank z (b + 1) (omega (arith, h.count, block-after)) in
      let now = skipped_due S m s k h z (b + 1) block-after g in
      record {
        block = omega (arith, same_length);
        due_now = same-due d ∙ now;
        cell = rw (same-records d) (some-cell (records_in bs d) (records-formed S m s k h d g));
        to_read =
            let e : suc j ≡ cells_above z bs' d + 0 = omega (arith, cells_done l, same-cells z d) in
            ap₂ (λ (i : ℕ) (ps : List Place). drop i ps) e (sym same-places);
        rail = sym (ap (λ (y : Block). y.rail) (there d (λ p. omega arith)) ∙ q.later d (omega arith) g now);
        small = pow_pos (cell_at (records_in bs' d) 0).upper;
        later =
            λ a u v e.
            ap (λ (y : Block). y.rail) (there a (λ p. omega arith)) ∙ q.later a (omega arith) (omega (arith, same_length)) (sym (same-due a) ∙ e);
        words =
            λ a u e i p.
            q.words a (omega (arith, same_length)) (sym (same-due a) ∙ e) i p ∙ ap (λ (w : ℕ). bit w i) (sym (same_word_lem a));
      }

  all_read : cell_count R ≤ c + 1 → n ≤ d → k'.to_read ≡ []
  all_read l g =
      let e : d ≡ n = omega (arith, skipped_to S m s k h z (b + 1) block-after) in
      let last : suc j ≡ length (places z bs) = omega (arith, all-cells z bs, cells_done l, ap (cells_above z bs) e) in
      ap (λ (i : ℕ). drop i (places z bs)) last ∙ drop-length (places z bs)

  kept : (more next : Bool) → ltb (c + 1) (cell_count R) ≡ more → ltb d n ≡ next
      → Related S m (record { bank = s.bank; scan = left_by more next; rows = s.rows }) k'
  kept true next e f = moved_on (left_by true next) refl refl (λ p. absurd (true≢false p)) (λ p. next-cell (ltb-true (c + 1) (cell_count R) e))
  kept false true e f =
      moved_on (left_by false true) refl refl (λ p. absurd (true≢false p))
      (λ p. next-block (ltb-false (c + 1) (cell_count R) e) (ltb-true d n f))
  kept false false e f =
      moved_on (left_by false false) refl refl (λ p. all_read (ltb-false (c + 1) (cell_count R) e) (ltb-false d n f)) (λ p. absurd (false≢true p))

  moved_is : moved s.bank s.scan (next_row s.bank s.scan s.rows) ≡ left_by (ltb (c + 1) (cell_count R)) (ltb d n)
  unfolding moved scan_from
  moved_is = rw (next_row_lem, in_bank, h.count) refl

  abbrev read : After State
  read =
      record {
        answer = went b c;
        state = record { bank = s.bank; scan = left_by (ltb (c + 1) (cell_count R)) (ltb d n); rows = s.rows };
      }

  step_is : step s ≡ read
  unfolding step
  step_is =
      cond_no (not (formed s.bank s.scan)) _ _ (ap not (all-formed S m s k h)) ∙ cond_no (not s.scan.running) _ _ (ap not on)
      ∙ cond_no (ltb (length s.rows) (room two_bytes (rows_held s.bank))) _ _
      (le-ltb (length s.rows) (room two_bytes (rows_held s.bank)) (omega (arith, ap (room two_bytes) (rows-held S m s k h), h.rows, h.fits)))
      ∙ ap (λ (t : Scan). record { answer = went b c; state = record { bank = s.bank; scan = t; rows = s.rows } }) moved_is

  book_is : book_step k ≡ record { answer = went b c; state = k' }
  unfolding book_step read_first
  book_is = ap (read_first k) left

  read_same : Match S m (step s) (book_step k)
  read_same = rw (step_is, book_is) (record { answers = refl; related = kept (ltb (c + 1) (cell_count R)) (ltb d n) refl refl })

module _ (S m : ℕ) (s : State) (k : Book) (h : Related S m s k) where
  rest-same : s.scan.running ≡ false → Match S m (step s) (book_step k)
  unfolding step book_step read_first
  rest-same e =
      let rests : step s ≡ record { answer = idle; state = s } =
      cond_no (not (formed s.bank s.scan)) _ _ (ap not (all-formed S m s k h)) ∙ cond_yes (not s.scan.running) _ _ (ap not e) in
      let nothing : book_step k ≡ record { answer = idle; state = k } = ap (read_first k) (h.rests e) in
      rw (rests, nothing) (record { answers = refl; related = h })

  pub step_same : Match S m (step s) (book_step k)
  step_same = by_test s.scan.running (read_same S m s k h) rest-same
