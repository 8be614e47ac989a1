-- Admission is answered as in the book, and keeps the relation.
-- Assumes nothing.
use mathlib.Core.Path.{◌≡◌, refl, sym, ◌∙◌, ap, ap₂}
use mathlib.Core.Bool.{Bool, true, false, cond, false≢true}
use mathlib.Core.List.{List, []}
use Prim.Native.Nat.{ℕ, ◌+◌, ◌*◌, ◌/◌, ◌<◌, ◌≤◌}
use native.Mathlib.Omega.{arith}
use lib.Dec.{eqb, leb, ltb}
use lib.ListN.{length, get_or, set, length-set}
use lib.Seq.{get_or-set_same, get_or-set_other}
use borrow.Author.Tests.{le-leb, leb-true, eqb-true}
use Rattle.laws.specs.Tests.{any, within}
use Rattle.laws.specs.Lists.{written}
use Rattle.laws.proofs.Cases.{last_or_below, and_split, and_join}
use Rattle.laws.proofs.Counts.{sum_ext, sum_at}
use Rattle.laws.proofs.Filled.{length-written}
use Rattle.laws.proofs.Parts.{part, part_before, part_written, part_replicate}
use Rattle.laws.proofs.Tests.{any_ext}
use Rattle.stored_spec.specs.StoredForm.{well_formed, row_count}
use Rattle.stored_spec.specs.Run.{unset}
use Rattle.stored_spec.specs.RowBytes.{two_bytes, row_value, room}
use Rattle.stored_spec.proofs.Promises.{records_have, formed-records, formed_parts, room_two, row_before, row_written}
use Rattle.bank_spec.specs.Due.{timed, due_cells, number_after}
use Rattle.bank_spec.specs.State.{State, records_of, cells_held, rows_held, cleared}
use Rattle.bank_spec.specs.Calls.{Handed, numbered, admit_refusal, with_block, admitted, admit, outputs_of, scan_at}
use Rattle.bank_spec.specs.Book.{Block, Book, cells_in, rows_in, book_refusal, wiped, entered, book_admit}
use Rattle.bank_spec.proofs.Entered.{Admits, admits, entered-length, entered_old, entered_new, entered-cells}
use Rattle.bank_spec.proofs.Related.{records_in, rows_above, SameBlock, Related, Match, cells_in_lem, rows_in_lem, cells-held, rows-held, all-formed}

-- no output is set in any place
pub none-set : (on : Bool) (b c r n : ℕ) (ws : List ℕ) (a : ℕ) → a < 8 → outputs_of (scan_at on b c r n ws cleared) a ≡ unset
unfolding outputs_of
none-set on b c r n ws a l = part_replicate 2 (a * 8) 8 64 (omega arith)

-- the rows of the blocks in the book after it
module _ (k : Book) (c : Handed) where
  abbrev after : List Block
  after = (entered k c).blocks

  none-to_read : (entered k c).to_read ≡ []
  unfolding entered
  none-to_read = refl

  starts_anew : number_after 7 ≡ (entered k c).next
  unfolding entered number_after
  starts_anew = refl

  old_records : (b : ℕ) → b < length k.blocks → records_in after b ≡ records_in k.blocks b
  unfolding wiped
  old_records b l = ap (λ (x : Block). x.records) (entered_old k c b l)

  old_rows : (b : ℕ) → b ≤ length k.blocks → rows_above after b ≡ rows_above k.blocks b
  old_rows b l =
      sum_ext (λ i. row_count (records_in after i)) (λ i. row_count (records_in k.blocks i)) b (λ i p. ap row_count (old_records i (omega arith)))

  new_rows : rows_above after (length after) ≡ rows_above k.blocks (length k.blocks) + row_count c.records
  new_rows =
      ap (rows_above after) (entered-length k c)
      ∙ ap₂ (λ (x y : ℕ). x + y) (old_rows (length k.blocks) (omega arith)) (ap (λ (x : Block). row_count x.records) (entered_new k c))

module _ (S m : ℕ) (s : State) (k : Book) (h : Related S m s k) (c : Handed) where
  abbrev bs : List Block
  bs = k.blocks

  abbrev n : ℕ
  n = length k.blocks

  abbrev R : List ℕ
  R = c.records

  same_over : any 8 (λ i. ltb s.bank.limit (cells_held s.bank i + due_cells c.period c.phase i R))
      ≡ any 8 (λ i. ltb S (cells_in i bs + due_cells c.period c.phase i R))
  same_over =
      any_ext (λ i. ltb s.bank.limit (cells_held s.bank i + due_cells c.period c.phase i R))
      (λ i. ltb S (cells_in i bs + due_cells c.period c.phase i R)) 8
      (λ i l. ap₂ (λ (x y : ℕ). ltb x (y + due_cells c.period c.phase i R)) h.limit (cells-held S m s k h i ∙ sym (cells_in_lem i bs)))

  same-refusal : admit_refusal s c ≡ book_refusal S m bs c
  unfolding admit_refusal book_refusal
  same-refusal = rw (all-formed S m s k h, same_over, rows-held S m s k h, h.rows, h.count, rows_in_lem bs) refl

  module _ (f : Admits S m bs c) where
    abbrev t : State
    t = admitted s c

    abbrev bs' : List Block
    bs' = (entered k c).blocks

    few : n < 8
    few = f.few

    record_bytes_lem : (length R ≡ length R / 4 * 4) × (1 ≤ length R / 4) × (length R / 4 ≤ 20)
    record_bytes_lem =
        let have = records_have two_bytes R (formed-records R c.rows f.well) in
        (have.whole, have.some, have.few)

    records_fit : s.bank.count * 80 + length R ≤ length s.bank.records
    records_fit = omega (arith, h.count, h.records, record_bytes_lem)

    row-bytes : length c.rows ≡ row_count R * 2
    row-bytes = (formed_parts two_bytes R c.rows f.well).1 ∙ room_two (row_count R)

    rows_fit : room two_bytes (rows_held s.bank) + length c.rows ≤ length s.rows
    rows_fit =
        omega
        (arith, rows-held S m s k h, rows_in_lem bs, h.rows, f.fits, room_two (rows_held s.bank), room_two (rows_in bs + row_count R), row-bytes)

    -- of the eight places of a list one is stored into
    here : (l : List ℕ) (v : ℕ) → length l ≡ 8 → get_or (set l s.bank.count v) n 0 ≡ v
    here l v e = ap (λ (x : ℕ). get_or (set l x v) n 0) h.count ∙ get_or-set_same l n v 0 (omega (arith, e))

    there : (l : List ℕ) (v b : ℕ) → b < n → get_or (set l s.bank.count v) b 0 ≡ get_or l b 0
    there l v b p = get_or-set_other l s.bank.count b v 0 (λ q. omega (arith, h.count))

    old_block : (b : ℕ) → b < n → SameBlock t bs' b
    unfolding admitted with_block records_of wiped
    old_block b l =
        let q = h.blocks b l in
        let e = entered_old k c b l in
        let len = there s.bank.lengths (length R / 4) b l in
        let most = leb-true (get_or s.bank.lengths b 0) 20 (and_split (leb 1 (get_or s.bank.lengths b 0)) (leb (get_or s.bank.lengths b 0) 20) q.size).1 in
        record {
          size = ap (within 1 20) len ∙ q.size;
          records =
              ap (λ (x : ℕ). part (b * 80) (x * 4) (written s.bank.records (s.bank.count * 80) R)) len
              ∙ part_before s.bank.records (s.bank.count * 80) R records_fit (b * 80) (get_or s.bank.lengths b 0 * 4) (omega (arith, h.count))
              ∙ q.records ∙ sym (old_records k c b l);
          period = there s.bank.periods c.period b l ∙ q.period ∙ ap (λ (x : Block). x.period) (sym e);
          phase = there s.bank.phases c.phase b l ∙ q.phase ∙ ap (λ (x : Block). x.phase) (sym e);
          timing = ap (λ (x : Block). timed x.period x.phase) e ∙ q.timing;
          well = ap (λ (x : Block). well_formed x.records x.rows) e ∙ q.well;
          rows =
              λ i p.
              let p' : i < row_count (records_in bs b) = rw (old_records k c b l) at p in
              let inside = sum_at (λ i. row_count (records_in bs i)) n b l in
              ap (λ (x : ℕ). row_value two_bytes t.rows (x + i)) (old_rows k c b (omega arith))
              ∙ row_before two_bytes s.rows (rows_held s.bank) c.rows rows_fit (rows_above bs b + i) (omega (arith, rows-held S m s k h))
              ∙ q.rows i p' ∙ ap (λ (x : Block). row_value two_bytes x.rows i) (sym e);
          outputs = none-set false 0 0 0 7 _ b (omega arith) ∙ ap (λ (x : Block). x.outputs) (sym e);
        }

    new_block_lem : SameBlock t bs' n
    unfolding admitted with_block records_of
    new_block_lem =
        let e = entered_new k c in
        let len = here s.bank.lengths (length R / 4) h.lengths in
        record {
          size = ap (within 1 20) len ∙ and_join (le-leb 1 (length R / 4) record_bytes_lem.1) (le-leb (length R / 4) 20 record_bytes_lem.2);
          records =
              ap₂ (λ (x i : ℕ). part (i * 80) x (written s.bank.records (s.bank.count * 80) R))
              (ap (λ (x : ℕ). x * 4) len ∙ sym record_bytes_lem.0) (sym h.count)
              ∙ part_written s.bank.records (s.bank.count * 80) R records_fit ∙ ap (λ (x : Block). x.records) (sym e);
          period = here s.bank.periods c.period h.periods ∙ ap (λ (x : Block). x.period) (sym e);
          phase = here s.bank.phases c.phase h.phases ∙ ap (λ (x : Block). x.phase) (sym e);
          timing = ap (λ (x : Block). timed x.period x.phase) e ∙ f.timing;
          well = ap (λ (x : Block). well_formed x.records x.rows) e ∙ f.well;
          rows =
              λ i p.
              let p' : i < row_count R = rw (ap (λ (x : Block). x.records) e) at p in
              ap (λ (x : ℕ). row_value two_bytes t.rows (x + i)) (old_rows k c n (omega arith) ∙ sym (rows-held S m s k h))
              ∙ row_written two_bytes s.rows (rows_held s.bank) c.rows rows_fit i (omega (arith, room_two (i + 1), row-bytes))
              ∙ ap (λ (x : Block). row_value two_bytes x.rows i) (sym e);
          outputs = none-set false 0 0 0 7 _ n (omega arith) ∙ ap (λ (x : Block). x.outputs) (sym e);
        }

    kept : Related S m t (entered k c)
    unfolding admitted with_block
    kept =
        let L = entered-length k c in
        let D = new_rows k c ∙ ap (λ (x : ℕ). x + row_count R) (sym (rows_in_lem bs)) in
        record {
          limit = h.limit;
          range = h.range;
          few = omega arith;
          count = omega (arith, h.count);
          lengths = length-set s.bank.lengths s.bank.count (length R / 4) ∙ h.lengths;
          records = length-written s.bank.records (s.bank.count * 80) R records_fit ∙ h.records;
          periods = length-set s.bank.periods s.bank.count c.period ∙ h.periods;
          phases = length-set s.bank.phases s.bank.count c.phase ∙ h.phases;
          outputs = refl;
          rows = length-written s.rows (room two_bytes (rows_held s.bank)) c.rows rows_fit ∙ h.rows;
          number = omega arith;
          next = starts_anew k c;
          cells = λ i l. omega (arith, sym (cells_in_lem i bs'), entered-cells k c i, f.cells i l);
          most = rw D f.most;
          fits = rw D f.fits;
          blocks = λ b l. last_or_below b n (omega arith) (λ e. rw e new_block_lem) (λ p. old_block b p);
          rests = λ e. none-to_read k c;
          runs = λ e. absurd (false≢true e);
        }

  pub admit-same : Match S m (admit s c) (book_admit S m k c)
  unfolding admit book_admit
  admit-same = rw same-refusal (by (eqb r 0) refl)
    where
      r : ℕ
      r = book_refusal S m bs c

      by : (b : Bool) → eqb r 0 ≡ b
          → Match S m (record { answer = numbered r; state = cond (eqb r 0) (admitted s c) s })
          (record { answer = numbered r; state = cond (eqb r 0) (entered k c) k })
      by true e = record { answers = refl; related = rw e (kept (admits S m bs c (eqb-true r 0 e))) }
      by false e = record { answers = refl; related = rw e h }
