-- A latch is answered as in the book, and keeps the relation.
-- Assumes nothing.
use mathlib.Core.Path.{◌≡◌, refl, sym, ◌∙◌, ap, ap₂}
use mathlib.Core.Bool.{Bool, true, false, cond, not, true≢false, false≢true}
use mathlib.Core.List.{List, []}
use Prim.Native.Nat.{ℕ, ◌+◌, ◌*◌, ◌/◌, ◌%◌, ◌<◌, ◌≤◌}
use native.Mathlib.Nat.{mod-lt, mul-add-div_right, div-eq_of_lt, add-zero}
use native.Mathlib.Omega.{arith}
use lib.Dec.{ltb}
use lib.ListN.{length, get_or, drop, length-take, length-drop, length-replicate, get_or-replicate, drop_of_length-le}
use lib.Seq.{ext_get_or, get_or-take, get_or-drop}
use lib.Pow.{pow_pos}
use borrow.Author.Tests.{lt-ltb, ltb-true, ltb-false}
use Rattle.laws.specs.Bits.{bit}
use Rattle.laws.specs.Lists.{tab}
use Rattle.laws.proofs.Cases.{by_test, cond_yes, cond_no}
use Rattle.laws.proofs.Counts.{sum_ext}
use Rattle.laws.proofs.Lists.{length-tab, get_or-tab}
use Rattle.laws.proofs.Parts.{part}
use Rattle.stored_spec.specs.StoredForm.{well_formed, cell_at, row_count}
use Rattle.stored_spec.specs.RowBytes.{two_bytes, row_value, room}
use Rattle.stored_spec.proofs.Promises.{SameInputs, some-cell, kept-inputs}
use Rattle.stored_spec.specs.Run.{unset}
use Rattle.bank_spec.specs.Due.{timed, number_after}
use Rattle.bank_spec.specs.State.{State, Bank, Scan, due_at, next_due}
use Rattle.bank_spec.specs.Calls.{scan_at, scan_from, keeps, words_kept, outputs_kept, latched, latch, outputs_of}
use Rattle.bank_spec.specs.Book.{Block, Book, block_at, is_due, places, wiped, book_latch}
use Rattle.bank_spec.proofs.Scans.{cells_above, length-places}
use Rattle.bank_spec.proofs.LatchKeeps.{latch-kept, latch-due, latch-not_due, latch-places, kept-due, kept-due_cells, latch-length}
use Rattle.bank_spec.proofs.Related.{records_in, rows_above, SameBlock, Stands, Related, Match, all-formed, records-formed, due-same, cells_in_lem}
use Rattle.bank_spec.proofs.NextDue.{skipped_to, skipped_due, skipped_cells}

-- the word kept for a block held that is due
word_kept : (k : Bank) (n : ℕ) (old ws : List ℕ) (b : ℕ) → b < k.count → k.count ≤ 8 → due_at k n b ≡ true
    → SameInputs (get_or (words_kept k n old ws) b 0) (get_or ws b 0)
unfolding words_kept keeps
word_kept k n old ws b l m e i p =
    ap (λ (w : ℕ). bit w i)
    (get_or-tab (λ b. cond (keeps k n b) (get_or old b 0) (cond (ltb b k.count) (get_or ws b 0 % 4096) 0)) 0 8 b (omega arith)
    ∙ rw (lt-ltb b k.count l, e) refl)
    ∙ kept-inputs (get_or ws b 0) i p

-- the outputs of a place after a latch
module _ (k : Bank) (n : ℕ) (old : List ℕ) (long : length old ≡ 64) (b : ℕ) (l : b < 8) where
  abbrev element : ℕ → ℕ
  element i = cond (keeps k n (i / 8)) (get_or old i 0) 2

  part_size : (x : List ℕ) → length x ≡ 64 → length (part (b * 8) 8 x) ≡ 8
  part_size x e = simp (length-take, length-drop) (omega (arith, e))

  part_at : (o : ℕ) → o < 8 → get_or (part (b * 8) 8 (tab 64 element)) o 0 ≡ cond (keeps k n b) (get_or old (b * 8 + o) 0) 2
  part_at o p =
      let place : (b * 8 + o) / 8 ≡ b = mul-add-div_right (omega arith) b o ∙ ap (λ (x : ℕ). b + x) (div-eq_of_lt p) ∙ add-zero b in
      get_or-take 8 (drop (b * 8) (tab 64 element)) o 0 p ∙ get_or-drop (b * 8) (tab 64 element) o 0
      ∙ get_or-tab element 0 64 (b * 8 + o) (omega arith)
      ∙ ap (λ (x : ℕ). cond (keeps k n x) (get_or old (b * 8 + o) 0) 2) place

  outputs_stay : keeps k n b ≡ true → part (b * 8) 8 (outputs_kept k n old) ≡ part (b * 8) 8 old
  unfolding outputs_kept
  outputs_stay e =
      let size = part_size (tab 64 element) (length-tab element 64) in
      ext_get_or 0 (part (b * 8) 8 (tab 64 element)) (part (b * 8) 8 old) (size ∙ sym (part_size old long))
      (λ o p.
      let p' : o < 8 = omega (arith, p, size) in
      part_at o p' ∙ cond_yes (keeps k n b) (get_or old (b * 8 + o) 0) 2 e
      ∙ sym (get_or-take 8 (drop (b * 8) old) o 0 p' ∙ get_or-drop (b * 8) old o 0))

  outputs-cleared : keeps k n b ≡ false → part (b * 8) 8 (outputs_kept k n old) ≡ unset
  unfolding outputs_kept
  outputs-cleared e =
      let size = part_size (tab 64 element) (length-tab element 64) in
      ext_get_or 0 (part (b * 8) 8 (tab 64 element)) unset (size ∙ sym (length-replicate {A = ℕ} 8 2))
      (λ o p.
      let p' : o < 8 = omega (arith, p, size) in
      part_at o p' ∙ cond_no (keeps k n b) (get_or old (b * 8 + o) 0) 2 e ∙ sym (get_or-replicate 8 o 2 0 p'))

module _ (S m : ℕ) (s : State) (k : Book) (h : Related S m s k) (ws : List ℕ) where
  abbrev bs : List Block
  bs = k.blocks

  abbrev n : ℕ
  n = length k.blocks

  -- the number of the scan, and the first block that it reads
  abbrev c : ℕ
  c = number_after s.scan.number

  abbrev d : ℕ
  d = next_due s.bank c 0

  abbrev k' : Book
  k' = (book_latch k ws).state

  abbrev words : List ℕ
  words = words_kept s.bank c s.scan.words ws

  abbrev outs : List ℕ
  outs = outputs_kept s.bank c s.scan.outputs

  -- the scan state left, by whether a block is due
  abbrev left_by : Bool → Scan
  left_by t = cond t (scan_at true d 0 0 c words outs) (scan_at false 0 0 0 c words outs)

  same_length : length k'.blocks ≡ n
  same_length = latch-length k ws

  same-records : (b : ℕ) → records_in k'.blocks b ≡ records_in bs b
  same-records b = (latch-kept k ws).records b

  same_rows : (b : ℕ) → rows_above k'.blocks b ≡ rows_above bs b
  same_rows b = sum_ext (λ i. row_count (records_in k'.blocks i)) (λ i. row_count (records_in bs i)) b (λ i p. ap row_count (same-records i))

  same-cells : (i b : ℕ) → cells_above i k'.blocks b ≡ cells_above i bs b
  same-cells i b = sum_ext _ _ b (λ a p. kept-due_cells k'.blocks bs (latch-kept k ws) i a)

  same-due : (b : ℕ) → is_due c (block_at k'.blocks b) ≡ is_due c (block_at bs b)
  same-due b = kept-due k'.blocks bs (latch-kept k ws) c b

  -- a block that is due in the book is due in the bank
  due-next : (b : ℕ) → is_due k.next (block_at bs b) ≡ is_due c (block_at bs b)
  due-next b = ap (λ (x : ℕ). is_due x (block_at bs b)) (sym h.next)

  keeps_is : (b : ℕ) → b < n → keeps s.bank c b ≡ not (is_due c (block_at bs b))
  unfolding keeps
  keeps_is b l = rw (lt-ltb b s.bank.count (omega (arith, h.count)), due-same S m s k h c b l) refl

  latched-outputs : (b : ℕ) → b < n → part (b * 8) 8 outs ≡ (block_at k'.blocks b).outputs
  unfolding wiped outputs_of
  latched-outputs b l =
      by_test (is_due c (block_at bs b))
      (λ e.
      outputs-cleared s.bank c s.scan.outputs h.outputs b (omega (arith, h.few)) (keeps_is b l ∙ ap not e)
      ∙ ap (λ (x : Block). x.outputs) (sym (latch-due k ws b l (due-next b ∙ e))))
      (λ e.
      outputs_stay s.bank c s.scan.outputs h.outputs b (omega (arith, h.few)) (keeps_is b l ∙ ap not e) ∙ (h.blocks b l).outputs
      ∙ ap (λ (x : Block). x.outputs) (sym (latch-not_due k ws b l (due-next b ∙ e))))

  -- a scan state with these outputs
  module _ (scan : Scan) (o : scan.outputs ≡ outs) where
    abbrev t : State
    t = record { bank = s.bank; scan = scan; rows = s.rows }

    latched-block : (b : ℕ) → b < n → SameBlock t k'.blocks b
    unfolding outputs_of
    latched-block b l =
        let q = h.blocks b l in
        let r = latch-kept k ws in
        record {
          size = q.size;
          records = q.records ∙ sym (same-records b);
          period = q.period ∙ sym (r.period b);
          phase = q.phase ∙ sym (r.phase b);
          timing = ap₂ timed (r.period b) (r.phase b) ∙ q.timing;
          well = ap₂ well_formed (same-records b) (r.rows b) ∙ q.well;
          rows =
              λ i p.
              let p' : i < row_count (records_in bs b) = rw (same-records b) at p in
              ap (λ (x : ℕ). row_value two_bytes s.rows (x + i)) (same_rows b) ∙ q.rows i p' ∙ ap (λ (x : List ℕ). row_value two_bytes x i) (sym (r.rows b));
          outputs = ap (part (b * 8) 8) o ∙ latched-outputs b l;
        }

    latched_on : scan.number ≡ c → (scan.running ≡ false → k'.to_read ≡ []) → (scan.running ≡ true → Stands scan k') → Related S m t k'
    unfolding book_latch outputs_kept number_after
    latched_on z f g =
        record {
          limit = h.limit;
          range = h.range;
          few = omega (arith, same_length, h.few);
          count = h.count ∙ sym same_length;
          lengths = h.lengths;
          records = h.records;
          periods = h.periods;
          phases = h.phases;
          outputs = ap (λ (x : List ℕ). length x) o ∙ length-tab (λ i. cond (keeps s.bank c (i / 8)) (get_or s.scan.outputs i 0) 2) 64;
          rows = h.rows;
          number = omega (arith, z, mod-lt (s.scan.number + 1) {m = 8} (omega arith));
          next = ap number_after (z ∙ h.next);
          cells = λ i l. omega (arith, ap (cells_above i k'.blocks) same_length, same-cells i n, h.cells i l);
          most = omega (arith, ap (rows_above k'.blocks) same_length, same_rows n, h.most);
          fits = omega (arith, ap (λ (x : ℕ). room two_bytes (rows_above k'.blocks x)) same_length, ap (room two_bytes) (same_rows n), h.fits);
          blocks = λ b l. latched-block b (omega (arith, l, same_length));
          rests = f;
          runs = g;
        }

  to_read_lem : k'.to_read ≡ places c bs
  unfolding book_latch
  to_read_lem = ap (λ (x : ℕ). places x bs) (sym h.next)

  before_none : cells_above c bs d ≡ 0
  before_none = skipped_cells S m s k h c 0 (omega arith)

  -- the scan stands at the first cell of the first due block
  starts : d < n → Stands (left_by true) k'
  unfolding wiped
  starts l =
      let e = skipped_due S m s k h c 0 (omega arith) l in
      record {
        block = omega (arith, l, same_length);
        due_now = same-due d ∙ e;
        cell = rw (same-records d) (some-cell (records_in bs d) (records-formed S m s k h d l));
        to_read =
            let z : 0 ≡ cells_above c k'.blocks d + 0 = omega (arith, same-cells c d, before_none) in
            to_read_lem ∙ ap₂ (λ (i : ℕ) (ps : List _). drop i ps) z (sym (latch-places k ws c));
        rail = ap (λ (x : Block). x.rail) (sym (latch-due k ws d l (due-next d ∙ e)));
        small = pow_pos (cell_at (records_in k'.blocks d) 0).upper;
        later =
            λ b p q g.
            ap (λ (x : Block). x.rail) (latch-due k ws b (omega (arith, q, same_length)) (due-next b ∙ sym (same-due b) ∙ g));
        words =
            λ b q g i p.
            let q' : b < n = omega (arith, q, same_length) in
            let g' = sym (same-due b) ∙ g in
            word_kept s.bank c s.scan.words ws b (omega (arith, h.count)) (omega (arith, h.count, h.few)) (due-same S m s k h c b q' ∙ g') i p
            ∙ ap (λ (x : Block). bit x.word i) (sym (latch-due k ws b q' (due-next b ∙ g')));
      }

  nothing_due : n ≤ d → k'.to_read ≡ []
  nothing_due l =
      let e : d ≡ n = omega (arith, skipped_to S m s k h c 0 (omega arith)) in
      let none : cells_above c bs n ≡ 0 = ap (cells_above c bs) (sym e) ∙ before_none in
      to_read_lem ∙ drop_of_length-le (places c bs) {i = 0} (omega (arith, length-places c bs, cells_in_lem c bs, none))

  kept : (t : Bool) → ltb d n ≡ t → Related S m (record { bank = s.bank; scan = left_by t; rows = s.rows }) k'
  kept true e = latched_on (left_by true) refl refl (λ p. absurd (true≢false p)) (λ p. starts (ltb-true d n e))
  kept false e = latched_on (left_by false) refl refl (λ p. nothing_due (ltb-false d n e)) (λ p. absurd (false≢true p))

  latched_is : latched s.bank s.scan ws ≡ left_by (ltb d n)
  unfolding latched scan_from
  latched_is = rw h.count refl

  pub latch-same : Match S m (latch s ws) (book_latch k ws)
  unfolding latch book_latch
  latch-same =
      rw (all-formed S m s k h, latched_is) (record { answers = refl; related = kept (ltb d n) refl })
