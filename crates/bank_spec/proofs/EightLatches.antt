-- Scans that are stepped to their end: in any eight latches in a row every block is read whole exactly 8 divided by its period times.
-- Assumes nothing.
use mathlib.Core.Path.{◌≡◌, refl, sym, ◌∙◌, ap, ap₂, subst}
use mathlib.Core.Bool.{Bool, true, false, ◌&&◌}
use mathlib.Core.List.{List, [], ◌∷◌}
use Prim.Native.Nat.{ℕ, zero, suc, ◌+◌, ◌/◌, ◌<◌}
use native.Mathlib.Omega.{arith}
use lib.Dec.{eqb}
use lib.ListN.{length, get_or, drop, length-drop}
use lib.Seq.{take_all}
use borrow.Author.Tests.{eqb-true, eq-eqb, ne_eqb}
use Rattle.laws.specs.Bits.{flag}
use Rattle.laws.specs.Tests.{every}
use Rattle.laws.specs.Lists.{tab}
use Rattle.laws.proofs.Cases.{either, by_test, and_split, and_join, and_left_no}
use Rattle.laws.proofs.Tests.{every_of, every_at}
use Rattle.laws.proofs.Lists.{length-tab, get_or-tab}
use Rattle.stored_spec.specs.StoredForm.{cell_count}
use Rattle.bank_spec.specs.Due.{timed, due, number_after}
use Rattle.bank_spec.specs.State.{State}
use Rattle.bank_spec.specs.Calls.{latch}
use Rattle.bank_spec.specs.Book.{Block, Place, Book, block_at, is_due, due_cells_of, places, book_latch}
use Rattle.bank_spec.specs.CallLists.{state_after, book_after, trace, reads_of, steps_of, goes_on}
use Rattle.bank_spec.specs.Scanned.{cells_of, Round, none, stepped_out, is_whole, whole_reads}
use Rattle.bank_spec.proofs.Timed.{timed_one_of}
use Rattle.bank_spec.proofs.Scans.{stepped, due-cells, no_due_cells}
use Rattle.bank_spec.proofs.BookScans.{scan-goes, scan-reads}
use Rattle.bank_spec.proofs.LatchKeeps.{Kept, kept_on, latch-kept, stepped_kept, stepped_left, stepped_next}
use Rattle.bank_spec.proofs.LastCells.{places-cells}
use Rattle.stored_spec.proofs.Promises.{some-cell}
use Rattle.bank_spec.proofs.Related.{Related, records-formed}
use Rattle.bank_spec.proofs.LatchAsBook.{latch-same}
use Rattle.bank_spec.proofs.AsBook.{trace-same, after_related}

-- how many of m scans from number n on a block is due in
unfoldable pub due_times : ℕ → ℕ → ℕ → ℕ → ℕ
due_times p f n zero = 0
due_times p f n (suc m) = flag (due p f n) + due_times p f (number_after n) m

-- of eight it is 8 divided by its period: computed for each period, phase and number
right_times : ℕ → ℕ → ℕ → Bool
right_times p f n = eqb (due_times p f n 8) (8 / p)

all_right : every 8 (λ n. right_times 1 0 n && every 2 (λ f. right_times 2 f n) && every 4 (λ f. right_times 4 f n) && every 8 (λ f. right_times 8 f n)) ≡ true
unfolding right_times due_times due number_after
all_right = refl

module _ (p f : ℕ) (t : timed p f ≡ true) (n : ℕ) (l : n < 8) where
  abbrev here : Bool
  here = right_times 1 0 n && every 2 (λ g. right_times 2 g n) && every 4 (λ g. right_times 4 g n) && every 8 (λ g. right_times 8 g n)

  here_right : here ≡ true
  here_right =
      every_at (λ n. right_times 1 0 n && every 2 (λ f. right_times 2 f n) && every 4 (λ f. right_times 4 f n) && every 8 (λ f. right_times 8 f n)) 8 all_right n l

  pub eight-due : due_times p f n 8 ≡ 8 / p
  unfolding right_times
  eight-due =
      let d = and_split (right_times 1 0 n && every 2 (λ g. right_times 2 g n) && every 4 (λ g. right_times 4 g n)) (every 8 (λ g. right_times 8 g n)) here_right in
      let c = and_split (right_times 1 0 n && every 2 (λ g. right_times 2 g n)) (every 4 (λ g. right_times 4 g n)) d.0 in
      let b = and_split (right_times 1 0 n) (every 2 (λ g. right_times 2 g n)) c.0 in
      let small = (timed_one_of p f t).1 in
      either (timed_one_of p f t).0
      (λ e.
      let z : f ≡ 0 = omega (arith, e, small) in
      ap₂ (λ (x y : ℕ). due_times x y n 8) e z ∙ eqb-true (due_times 1 0 n 8) (8 / 1) b.0 ∙ ap (λ (x : ℕ). 8 / x) (sym e))
      (λ o.
      either o
      (λ e. ap (λ (x : ℕ). due_times x f n 8) e ∙ eqb-true (due_times 2 f n 8) (8 / 2) (every_at (λ g. right_times 2 g n) 2 b.1 f (omega (arith, e, small))) ∙ ap (λ (x : ℕ). 8 / x) (sym e))
      (λ o.
      either o
      (λ e. ap (λ (x : ℕ). due_times x f n 8) e ∙ eqb-true (due_times 4 f n 8) (8 / 4) (every_at (λ g. right_times 4 g n) 4 c.1 f (omega (arith, e, small))) ∙ ap (λ (x : ℕ). 8 / x) (sym e))
      (λ e. ap (λ (x : ℕ). due_times x f n 8) e ∙ eqb-true (due_times 8 f n 8) (8 / 8) (every_at (λ g. right_times 8 g n) 8 d.1 f (omega (arith, e, small))) ∙ ap (λ (x : ℕ). 8 / x) (sym e))))

-- the cells of a block that a scan reads: all of them, or none
whole-all : (n : ℕ) → is_whole n (tab n (λ c. c)) ≡ true
unfolding is_whole
whole-all n =
    and_join (eq-eqb (length (tab n (λ c. c))) n (length-tab (λ c. c) n))
    (every_of (λ c. eqb (get_or (tab n (λ c. c)) c n) c) n (λ c l. eq-eqb (get_or (tab n (λ c. c)) c n) c (get_or-tab (λ c. c) n n c l)))

whole-none : (n : ℕ) → 0 < n → is_whole n [] ≡ false
unfolding is_whole
whole-none n l = and_left_no (eqb 0 n) _ (ne_eqb 0 n (λ e. omega arith))

-- one scan
module _ (S m : ℕ) (s : State) (k : Book) (h : Related S m s k) (r : Round) (goes : goes_on S m (book_latch k r.words).state r.since ≡ true)
    (end : none (book_after S m (book_latch k r.words).state r.since).to_read ≡ true) (b : ℕ) (l : b < length k.blocks) where
  abbrev B : Block
  B = block_at k.blocks b

  abbrev c : ℕ
  c = steps_of r.since

  abbrev latched_state : State
  latched_state = (latch s r.words).state

  abbrev latched_book : Book
  latched_book = (book_latch k r.words).state

  related : Related S m latched_state latched_book
  related = (latch-same S m s k h r.words).related

  pub after_round : Related S m (state_after latched_state r.since) (book_after S m latched_book r.since)
  after_round = after_related S m r.since latched_state latched_book related

  left_none : length (drop c (places k.next k.blocks)) ≡ 0
  unfolding book_latch
  left_none =
      ap (λ (x : List Place). length x) (sym (stepped_left c latched_book) ∙ ap (λ (x : Book). x.to_read) (sym (scan-goes S m k r.words r.since goes)))
      ∙ eqb-true (length (book_after S m latched_book r.since).to_read) 0 end

  reads_all : reads_of (trace latched_state r.since) ≡ places k.next k.blocks
  reads_all =
      ap reads_of (trace-same S m r.since latched_state latched_book related) ∙ scan-reads S m k r.words r.since goes
      ∙ take_all c (places k.next k.blocks) (omega (arith, left_none, length-drop c (places k.next k.blocks)))

  pub round_whole : is_whole (cell_count B.records) (cells_of b (reads_of (trace latched_state r.since))) ≡ is_due k.next B
  round_whole =
      let n = cell_count B.records in
      let is : cells_of b (reads_of (trace latched_state r.since)) ≡ tab (due_cells_of k.next B) (λ c. c) =
      ap (cells_of b) reads_all ∙ places-cells k.next k.blocks b l in
      ap (is_whole n) is
      ∙ by_test (is_due k.next B)
      (λ e. ap (λ (x : ℕ). is_whole n (tab x (λ c. c))) (due-cells k.next B e) ∙ whole-all n ∙ sym e)
      (λ e.
      ap (λ (x : ℕ). is_whole n (tab x (λ c. c))) (no_due_cells k.next B e)
      ∙ whole-none n (some-cell B.records (records-formed S m s k h b l)) ∙ sym e)

  pub round_next : (book_after S m latched_book r.since).next ≡ number_after k.next
  unfolding book_latch
  round_next = ap (λ (x : Book). x.next) (scan-goes S m k r.words r.since goes) ∙ stepped_next c latched_book

  pub round_kept : Kept (book_after S m latched_book r.since).blocks k.blocks
  round_kept =
      subst (λ (x : Book). Kept x.blocks k.blocks) (sym (scan-goes S m k r.words r.since goes))
      (kept_on (stepped c latched_book).blocks latched_book.blocks k.blocks (stepped_kept c latched_book) (latch-kept k r.words))

pub whole-reads : (S m : ℕ) (s : State) (k : Book) → Related S m s k → (rounds : List Round) → stepped_out S m k rounds ≡ true
    → (b : ℕ) → b < length k.blocks
    → whole_reads s rounds b (cell_count (block_at k.blocks b).records)
    ≡ due_times (block_at k.blocks b).period (block_at k.blocks b).phase k.next (length rounds)
unfolding stepped_out whole_reads due_times is_due
whole-reads S m s k h [] t b l = refl
whole-reads S m s k h (r ∷ rs) t b l =
    let at : Book = (book_latch k r.words).state in
    let end : Book = book_after S m at r.since in
    let u = and_split (goes_on S m at r.since && none end.to_read) (stepped_out S m end rs) t in
    let v = and_split (goes_on S m at r.since) (none end.to_read) u.0 in
    let kept = round_kept S m s k h r v.0 v.1 b l in
    let l' : b < length end.blocks = omega (arith, l, kept.long) in
    let rest = whole-reads S m (state_after (latch s r.words).state r.since) end (after_round S m s k h r v.0 v.1 b l) rs u.1 b l' in
    ap₂ (λ (x y : ℕ). x + y) (ap flag (round_whole S m s k h r v.0 v.1 b l))
    (ap (λ (R : List ℕ). whole_reads (state_after (latch s r.words).state r.since) rs b (cell_count R)) (sym (kept.records b))
    ∙ rest
    ∙ ap₂ (λ (p f : ℕ). due_times p f end.next (length rs)) (kept.period b) (kept.phase b)
    ∙ ap (λ (n : ℕ). due_times (block_at k.blocks b).period (block_at k.blocks b).phase n (length rs)) (round_next S m s k h r v.0 v.1 b l))
