-- Unread inputs replaced in a latch: the calls since are answered the same and set the same outputs, and the reads left set every output of
-- a compiled block that is due to a value allowed for the words latched.
-- Assumes nothing.
use mathlib.Core.Path.{◌≡◌, refl, sym, ◌∙◌, ap, ap₂, subst}
use mathlib.Core.Bool.{Bool, true, false, cond, not, ◌||◌, false≢true}
use mathlib.Core.List.{List, [], ◌∷◌, map}
use Prim.Native.Nat.{ℕ, zero, suc, ◌+◌, ◌-◌, ◌<◌, ◌≤◌, min}
use native.Mathlib.Nat.{not-suc-le-zero, le_of_suc-le-suc, add-zero}
use native.Mathlib.Omega.{arith}
use lib.Dec.{eqb, leb, ltb}
use lib.ListN.{length, get_or, take, length-map, get_or-map, drop_of_length-le}
use lib.Seq.{ext_get_or}
use Rattle.laws.proofs.Cases.{by_less, cond_yes, cond_no}
use Rattle.sheet_spec.specs.Job.{Job}
use Rattle.stored_spec.specs.StoredForm.{well_formed, cell_count, row_count}
use Rattle.stored_spec.specs.RowBytes.{two_bytes, room}
use Rattle.laws.specs.Tests.{any}
use Rattle.laws.proofs.Tests.{any_ext}
use Rattle.bank_spec.specs.Due.{timed, due_cells}
use Rattle.bank_spec.specs.Calls.{Answer, accepted, refused, numbered, After, Handed}
use Rattle.bank_spec.specs.Book.{Block, Place, Book, no_block, block_at, is_due, cells_in, rows_in, book_refusal, places, entered, book_admit, book_latch, read_first, book_step}
use Rattle.bank_spec.specs.CallLists.{Call, admission, latching, stepping, Entry, book_call, book_after, outputs_in_book, book_trace, reads_of, steps_of, ends, goes_on}
use Rattle.bank_spec.specs.Demand3.{CompiledBy, SetAllowed, OnlyUnread}
use Rattle.bank_spec.proofs.Scans.{after_cells, in_scan, read_in, stepped, scan_over, length-places, cells-within, due-cells}
use Rattle.bank_spec.proofs.BookScans.{refused-keeps, scan-goes, scan-reads}
use Rattle.bank_spec.proofs.UnreadInputs.{same-scan}
use Rattle.bank_spec.proofs.LatchKeeps.{Kept, kept_back, kept_on, kept-cells, kept-rows, latch-kept, stepped_kept, stepped_left, scanned_at}
use Rattle.bank_spec.proofs.CompiledBlocks.{compiled-whole}

-- fewer places read
unread_fewer : (bs : List Block) (ws vs : List ℕ) (ps : List Place) (m n : ℕ) → m ≤ n → OnlyUnread bs ws vs (take n ps) → OnlyUnread bs ws vs (take m ps)
unread_fewer bs ws vs ps zero n l h = tt
unread_fewer bs ws vs ps (suc m) zero l h = absurd (not-suc-le-zero l)
unread_fewer bs ws vs [] (suc m) (suc n) l h = tt
unread_fewer bs ws vs (p ∷ ps) (suc m) (suc n) l h = (h.0, unread_fewer bs ws vs ps m n (le_of_suc-le-suc l) h.1)

abbrev entry : Answer → List (List ℕ) → Entry
entry a os = record { answer = a; outputs = os }

-- a refused admission changes nothing
module _ (S m : ℕ) (k : Book) (h : Handed) (cs : List Call) (no : eqb (book_refusal S m k.blocks h) 0 ≡ false) where
  abbrev refused_as : Answer
  refused_as = refused (book_refusal S m k.blocks h)

  admit-refused : book_admit S m k h ≡ record { answer = refused_as; state = k }
  unfolding book_admit numbered
  admit-refused = ap (λ (t : Bool). record { answer = cond t accepted refused_as; state = cond t (entered k h) k }) no

  goes-refused : goes_on S m k (admission h ∷ cs) ≡ goes_on S m k cs
  unfolding goes_on book_call ends
  goes-refused = ap (λ (r : After Book). cond (ends (admission h) r.answer) false (goes_on S m r.state cs)) admit-refused

  trace-refused : book_trace S m k (admission h ∷ cs) ≡ entry refused_as (outputs_in_book k) ∷ book_trace S m k cs
  unfolding book_trace book_call
  trace-refused =
      ap (λ (r : After Book). entry r.answer (outputs_in_book r.state) ∷ book_trace S m r.state cs) admit-refused

-- refusals depend on what a latch and steps keep
same-refusal : (S m : ℕ) (bs cs : List Block) (h : Handed) → Kept bs cs → book_refusal S m bs h ≡ book_refusal S m cs h
unfolding book_refusal
same-refusal S m bs cs h kept =
    let over : List Block → ℕ → Bool = λ ds n. ltb S (cells_in n ds + due_cells h.period h.phase n h.records) in
    let from : ℕ → Bool → ℕ → ℕ =
    λ n t r.
    cond (not (well_formed h.records h.rows)) 12
    (cond (not (timed h.period h.phase)) 16
    (cond (leb 8 n) 13 (cond t 14 (cond (ltb m (room two_bytes (r + row_count h.records)) || ltb 32768 (r + row_count h.records)) 11 0)))) in
    ap₂ (λ (n : ℕ) (t : Bool). from n t (rows_in bs)) kept.long
    (any_ext (over bs) (over cs) 8
    (λ n l. ap (λ (c : ℕ). ltb S (c + due_cells h.period h.phase n h.records)) (kept-cells bs cs kept n)))
    ∙ ap (from (length cs) (any 8 (over cs))) (kept-rows bs cs kept)

-- what a step is answered depends on the places alone
same_answer : (k l : Book) (ps : List Place) → (read_first k ps).answer ≡ (read_first l ps).answer
unfolding read_first
same_answer k l [] = refl
same_answer k l (p ∷ ps) = refl

pub stepped_on : (n s : ℕ) (k : Book) → stepped n (stepped s k) ≡ stepped (s + n) k
unfolding stepped
stepped_on zero s k = ap (λ (i : ℕ). stepped i k) (sym (add-zero s))
stepped_on (suc n) s k =
    let e : suc (s + n) ≡ s + suc n = omega arith in
    ap (λ (x : Book). (book_step x).state) (stepped_on n s k) ∙ ap (λ (i : ℕ). stepped i k) e

-- a latch with ws and one with vs, each with s steps after it
module _ (k : Book) (ws vs : List ℕ) where
  abbrev first : ℕ → Book
  first s = stepped s (book_latch k ws).state

  abbrev second : ℕ → Book
  second s = stepped s (book_latch k vs).state

  abbrev Unread : ℕ → Type 0
  Unread s = OnlyUnread k.blocks ws vs (take s (places k.next k.blocks))

  pub both-kept : (s : ℕ) → Kept (second s).blocks (first s).blocks
  both-kept s =
      let x = (book_latch k ws).state.blocks in
      let y = (book_latch k vs).state.blocks in
      kept_on (second s).blocks k.blocks (first s).blocks (kept_on (second s).blocks y k.blocks (stepped_kept s (book_latch k vs).state) (latch-kept k vs))
      (kept_back (first s).blocks k.blocks (kept_on (first s).blocks x k.blocks (stepped_kept s (book_latch k ws).state) (latch-kept k ws)))

  first-long : (s : ℕ) → length (first s).blocks ≡ length k.blocks
  first-long s = (stepped_kept s (book_latch k ws).state).long ∙ (latch-kept k ws).long

  pub same_at_lem : (s b : ℕ) → Unread s → b < length k.blocks
      → ((block_at (first s).blocks b).outputs ≡ (block_at (second s).blocks b).outputs)
      × ((block_at (first s).blocks b).rail ≡ (block_at (second s).blocks b).rail)
  same_at_lem s b u h =
      let n = cells_in k.next k.blocks in
      by_less s n (λ l. same-scan k ws vs s (omega arith) u b h)
      (λ l.
      let all = same-scan k ws vs n (omega arith) (unread_fewer k.blocks ws vs (places k.next k.blocks) n s l u) b h in
      let p = scan_over k ws s l in
      let q = scan_over k vs s l in (
        ap (λ (x : Book). (block_at x.blocks b).outputs) p ∙ all.0 ∙ ap (λ (x : Book). (block_at x.blocks b).outputs) (sym q),
        ap (λ (x : Book). (block_at x.blocks b).rail) p ∙ all.1 ∙ ap (λ (x : Book). (block_at x.blocks b).rail) (sym q),
      ))

  pub same-outputs : (s : ℕ) → Unread s → outputs_in_book (second s) ≡ outputs_in_book (first s)
  unfolding outputs_in_book
  same-outputs s u =
      let f : Block → List ℕ = λ B. B.outputs in
      ext_get_or [] (map f (second s).blocks) (map f (first s).blocks)
      (length-map (second s).blocks f ∙ (both-kept s).long ∙ sym (length-map (first s).blocks f))
      (λ b h.
      let b< : b < length k.blocks = omega (arith, h, length-map (second s).blocks f, (both-kept s).long, first-long s) in
      get_or-map f (second s).blocks b no_block ∙ sym (same_at_lem s b u b<).0 ∙ sym (get_or-map f (first s).blocks b no_block))

  pub same_left : (s : ℕ) → (second s).to_read ≡ (first s).to_read
  unfolding book_latch
  same_left s = stepped_left s (book_latch k vs).state ∙ sym (stepped_left s (book_latch k ws).state)

  step-answered : (s : ℕ) → (book_step (second s)).answer ≡ (book_step (first s)).answer
  unfolding book_step
  step-answered s = ap (λ (l : List Place). (read_first (second s) l).answer) (same_left s) ∙ same_answer (second s) (first s) (first s).to_read

  module _ (S m : ℕ) where
    same_from : (since : List Call) (s : ℕ) → goes_on S m (first s) since ≡ true → Unread (s + steps_of since)
        → (book_trace S m (second s) since ≡ book_trace S m (first s) since) × (goes_on S m (second s) since ≡ true)
    unfolding goes_on book_trace book_call steps_of ends stepped
    same_from [] s g u = (refl, refl)
    same_from (admission h ∷ cs) s g u =
        let no = (refused-keeps S m (first s) h (goes_on S m (book_admit S m (first s) h).state cs) g).3 in
        let is = same-refusal S m (second s).blocks (first s).blocks h (both-kept s) in
        let no' = ap (λ (n : ℕ). eqb n 0) is ∙ no in
        let less : s ≤ s + steps_of cs = omega arith in
        let rest = same_from cs s (sym (goes-refused S m (first s) h cs no) ∙ g) u in
        let same = same-outputs s (unread_fewer k.blocks ws vs (places k.next k.blocks) s (s + steps_of cs) less u) in (
          trace-refused S m (second s) h cs no' ∙ ap₂ (λ (e : Entry) (es : List Entry). e ∷ es) (ap₂ (λ (n : ℕ) (o : List (List ℕ)). entry (refused n) o) is same) rest.0
              ∙ sym (trace-refused S m (first s) h cs no),
          goes-refused S m (second s) h cs no' ∙ rest.1,
        )
    same_from (latching us ∷ cs) s h u = absurd (false≢true h)
    same_from (stepping ∷ cs) s h u =
        let e : s + suc (steps_of cs) ≡ suc s + steps_of cs = omega arith in
        let u' = subst Unread e u in
        let less : suc s ≤ suc s + steps_of cs = omega arith in
        let rest = same_from cs (suc s) h u' in
        let same = same-outputs (suc s) (unread_fewer k.blocks ws vs (places k.next k.blocks) (suc s) (suc s + steps_of cs) less u') in
        (ap₂ (λ (e : Entry) (es : List Entry). e ∷ es) (ap₂ entry (step-answered s) same) rest.0, rest.1)

    same-both : (since : List Call) → goes_on S m (book_latch k ws).state since ≡ true
        → OnlyUnread k.blocks ws vs (reads_of (book_trace S m (book_latch k ws).state since))
        → (book_trace S m (book_latch k vs).state since ≡ book_trace S m (book_latch k ws).state since) × (goes_on S m (book_latch k vs).state since ≡ true)
    unfolding stepped
    same-both since h u =
        let e : steps_of since ≡ 0 + steps_of since = omega arith in
        same_from since 0 h (subst Unread e (subst (OnlyUnread k.blocks ws vs) (scan-reads S m k ws since h) u))

pub same-trace : (S m : ℕ) (k : Book) (ws vs : List ℕ) (since : List Call) → goes_on S m (book_latch k ws).state since ≡ true
    → OnlyUnread k.blocks ws vs (reads_of (book_trace S m (book_latch k ws).state since))
    → book_trace S m (book_latch k vs).state since ≡ book_trace S m (book_latch k ws).state since
same-trace S m k ws vs since h u = (same-both k ws vs S m since h u).0

pub same-goes : (S m : ℕ) (k : Book) (ws vs : List ℕ) (since : List Call) → goes_on S m (book_latch k ws).state since ≡ true
    → OnlyUnread k.blocks ws vs (reads_of (book_trace S m (book_latch k ws).state since))
    → goes_on S m (book_latch k vs).state since ≡ true
same-goes S m k ws vs since h u = (same-both k ws vs S m since h u).1

-- the whole scan: nothing is left to read, each output of a compiled block that is due is set to an allowed value, and a block that isn't due is as
-- it was
module _ (k : Book) (vs : List ℕ) where
  abbrev all : ℕ
  all = cells_in k.next k.blocks

  abbrev whole : Book
  whole = stepped all (book_latch k vs).state

  whole_left : whole.to_read ≡ []
  unfolding book_latch
  whole_left =
      stepped_left all (book_latch k vs).state
      ∙ drop_of_length-le (places k.next k.blocks) {i = all} (omega (arith, length-places k.next k.blocks))

  whole_at : (b : ℕ) → b < length k.blocks → is_due k.next (block_at k.blocks b) ≡ true
      → block_at whole.blocks b ≡ after_cells (block_at k.blocks b) (get_or vs b 0) (cell_count (block_at k.blocks b).records)
  whole_at b h e =
      let B = block_at k.blocks b in
      let read : read_in k.next k.blocks all b ≡ cell_count B.records =
      omega (arith, cells-within k.next k.blocks b h, due-cells k.next B e) in
      scanned_at k vs all b (omega arith) h ∙ ap (in_scan k.next B (get_or vs b 0)) read
      ∙ cond_yes (is_due k.next B) (after_cells B (get_or vs b 0) (cell_count B.records)) B e

  whole-allowed : (b : ℕ) → b < length k.blocks → is_due k.next (block_at k.blocks b) ≡ true
      → (j : Job) (sheet : List ℕ) → CompiledBy j sheet (block_at k.blocks b)
      → (o : ℕ) → o < j.m → SetAllowed sheet (get_or vs b 0) o (get_or (block_at whole.blocks b).outputs o 2)
  whole-allowed b h e j sheet c o l =
      subst (λ (B : Block). SetAllowed sheet (get_or vs b 0) o (get_or B.outputs o 2)) (sym (whole_at b h e))
      (compiled-whole j sheet (block_at k.blocks b) c (get_or vs b 0) o l)

-- a block that isn't due is as it was, after any number of steps
pub not-due_at : (k : Book) (ws : List ℕ) (s b : ℕ) → b < length k.blocks → is_due k.next (block_at k.blocks b) ≡ false
    → block_at (stepped s (book_latch k ws).state).blocks b ≡ block_at k.blocks b
not-due_at k ws s b h e =
    let n = cells_in k.next k.blocks in
    by_less s n (λ l. within s (omega arith))
    (λ l. ap (λ (x : Book). block_at x.blocks b) (scan_over k ws s l) ∙ within n (omega arith))
  where
    within : (s : ℕ) → s ≤ cells_in k.next k.blocks → block_at (stepped s (book_latch k ws).state).blocks b ≡ block_at k.blocks b
    within s l =
        let B = block_at k.blocks b in
        scanned_at k ws s b l h ∙ cond_no (is_due k.next B) (after_cells B (get_or ws b 0) (read_in k.next k.blocks s b)) B e

pub reads_left : (S m : ℕ) (k : Book) (vs : List ℕ) (since : List Call) → goes_on S m (book_latch k vs).state since ≡ true
    → (n : ℕ) → n ≡ cells_in k.next k.blocks - min (steps_of since) (cells_in k.next k.blocks)
    → ((stepped n (book_after S m (book_latch k vs).state since)).to_read ≡ [])
    × ((b : ℕ) → b < length k.blocks → is_due k.next (block_at k.blocks b) ≡ true
    → (j : Job) (sheet : List ℕ) → CompiledBy j sheet (block_at k.blocks b)
    → (o : ℕ) → o < j.m → SetAllowed sheet (get_or vs b 0) o (get_or (block_at (stepped n (book_after S m (book_latch k vs).state since)).blocks b).outputs o 2))
reads_left S m k vs since h n is =
    let all : stepped n (book_after S m (book_latch k vs).state since) ≡ whole k vs =
    ap (stepped n) (scan-goes S m k vs since h) ∙ stepped_on n (steps_of since) (book_latch k vs).state
    ∙ scan_over k vs (steps_of since + n) (omega arith) in (
      ap (λ (x : Book). x.to_read) all ∙ whole_left k vs,
      λ b l e j sheet c o p.
          subst (λ (x : Book). SetAllowed sheet (get_or vs b 0) o (get_or (block_at x.blocks b).outputs o 2)) (sym all) (whole-allowed k vs b l e j sheet c o p),
    )
