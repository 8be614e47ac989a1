-- What holds while a scan runs: its reads, and what becomes of unread inputs replaced in the latch or in the scan state.
-- Assumes nothing.
use mathlib.Core.Path.{◌≡◌, sym, ◌∙◌, ap, ap₂, subst}
use mathlib.Core.Bool.{true, false}
use mathlib.Core.List.{List, [], ◌∷◌, ◌++◌}
use Prim.Native.Nat.{ℕ, ◌+◌, ◌-◌, ◌%◌, ◌<◌, min}
use native.Mathlib.Nat.{mod-add-mod, add-mod_right, mod-eq_of_lt}
use native.Mathlib.Omega.{arith}
use lib.ListN.{length, get_or, replicate}
use Rattle.laws.specs.Tests.{within}
use Rattle.sheet_spec.specs.Job.{Job}
use Rattle.bank_spec.specs.State.{State, fresh}
use Rattle.bank_spec.specs.Due.{number_after}
use Rattle.bank_spec.specs.Calls.{idle, step, latch, outputs_of}
use Rattle.bank_spec.specs.Book.{Block, Place, Book, new_book, block_at, is_due, cells_in, book_latch, read_first, book_step}
use Rattle.bank_spec.specs.CallLists.{Call, latching, stepping, call, book_call, state_after, book_after, Entry, trace, book_trace, reads_of, steps_of, goes_on}
use Rattle.bank_spec.specs.Demand3.{CompiledBy, SetAllowed, OnlyUnread, ReadsLeft, ScanClaim, book_at_latch, reads, reworded}
use Rattle.bank_spec.proofs.Scans.{stepped}
use Rattle.bank_spec.proofs.BookScans.{scan-goes, scan-reads, scan_total}
use Rattle.bank_spec.proofs.BookHolds.{book_sound}
use Rattle.bank_spec.proofs.BookUnread.{both-kept, same_at_lem, same-outputs, same_left, same-trace, same-goes, reads_left, not-due_at, stepped_on}
use Rattle.bank_spec.proofs.LatchKeeps.{latch-kept, latch-length, latch-cells, latch-word, latch_unread, kept-due, kept-compiled, stepped_kept, stepped_next, stepped_word, stepped_length}
use Rattle.bank_spec.proofs.Related.{Related}
use Rattle.bank_spec.proofs.Reworded.{Rewords, reworded_related}
use Rattle.bank_spec.proofs.LatchAsBook.{latch-same}
use Rattle.bank_spec.proofs.StepAsBook.{step_same}
use Rattle.bank_spec.proofs.AsBook.{trace-same, after_related, fresh_related}
use Rattle.bank_spec.proofs.CallLists.{after-append, trace-append, steps_after}

-- steps alone from related state and book on
module _ (S m n : ℕ) (s : State) (k : Book) (h : Related S m s k) where
  steps_related : Related S m (state_after s (replicate n stepping)) (stepped n k)
  steps_related =
      subst (λ (x : Book). Related S m (state_after s (replicate n stepping)) x) (steps_after S m n k) (after_related S m (replicate n stepping) s k h)

  steps_idle : (stepped n k).to_read ≡ [] → (step (state_after s (replicate n stepping))).answer ≡ idle
  unfolding book_step read_first
  steps_idle none =
      (step_same S m (state_after s (replicate n stepping)) (stepped n k) steps_related).answers
      ∙ ap (λ (ps : List Place). (read_first (stepped n k) ps).answer) none

  left_from : (z : ℕ) (bs : List Block) (vs : List ℕ) → length bs ≡ length k.blocks → (stepped n k).to_read ≡ []
      → ((b : ℕ) → b < length bs → is_due z (block_at bs b) ≡ true → (j : Job) (sheet : List ℕ) → CompiledBy j sheet (block_at bs b)
      → (o : ℕ) → o < j.m → SetAllowed sheet (get_or vs b 0) o (get_or (block_at (stepped n k).blocks b).outputs o 2))
      → ((b : ℕ) → b < length bs → is_due z (block_at bs b) ≡ false → block_at (stepped n k).blocks b ≡ block_at k.blocks b)
      → ReadsLeft z bs vs n s
  left_from z bs vs long none good other =
      record {
        to_idle = steps_idle none;
        allowed =
            λ b l d j sheet c o p.
            let is = (steps_related.blocks b (omega (arith, l, long, stepped_length n k))).outputs in
            subst (λ (os : List ℕ). SetAllowed sheet (get_or vs b 0) o (get_or os o 2)) (sym is) (good b l d j sheet c o p);
        kept =
            λ b l d.
            (steps_related.blocks b (omega (arith, l, long, stepped_length n k))).outputs ∙ ap (λ (B : Block). B.outputs) (other b l d)
            ∙ sym (h.blocks b (omega (arith, l, long))).outputs;
      }

-- the number of a scan from that of the next
number_back : (a : ℕ) → a < 8 → (number_after a + 7) % 8 ≡ a
unfolding number_after
number_back a l =
    let e : a + 1 + 7 ≡ a + 8 = omega arith in
    mod-add-mod (a + 1) 8 7 ∙ ap (λ (x : ℕ). x % 8) e ∙ add-mod_right a 8 ∙ mod-eq_of_lt l

number_one : (a b : ℕ) → a < 8 → b < 8 → number_after a ≡ number_after b → a ≡ b
number_one a b l m e = sym (number_back a l) ∙ ap (λ (x : ℕ). (x + 7) % 8) e ∙ number_back b m

module _ (S : ℕ) (range : within 1 255 S ≡ true) (mem : List ℕ) (before : List Call) (ws : List ℕ) (since : List Call)
    (goes : goes_on S (length mem) (book_at_latch S mem before ws since) since ≡ true) where
  abbrev m : ℕ
  m = length mem

  -- book and state before the latch
  abbrev k : Book
  k = book_after S m new_book before

  abbrev s : State
  s = state_after (fresh S mem) before

  -- the number of the scan
  abbrev z : ℕ
  z = k.next

  start : Related S m s k
  start = after_related S m before (fresh S mem) new_book (fresh_related S range mem)

  at_latch : (us : List ℕ) → Related S m (latch s us).state (book_latch k us).state
  at_latch us = (latch-same S m s k start us).related

  now : (us : List ℕ) (cs : List Call) → state_after (fresh S mem) (before ++ (latching us ∷ cs)) ≡ state_after (latch s us).state cs
  unfolding state_after call
  now us cs = after-append before (latching us ∷ cs) (fresh S mem)

  goes-book : goes_on S m (book_latch k ws).state since ≡ true
  unfolding book_call
  goes-book = goes

  reads-book : reads S mem before ws since ≡ reads_of (book_trace S m (book_latch k ws).state since)
  unfolding state_after
  reads-book =
      ap (λ (x : State). reads_of (trace x since)) (now ws [])
      ∙ ap reads_of (trace-same S m since (latch s ws).state (book_latch k ws).state (at_latch ws))

  total : length (reads S mem before ws since) ≡ min (steps_of since) (cells_in z k.blocks)
  total = ap (λ (ps : List Place). length ps) reads-book ∙ scan_total S m k ws since goes-book

  abbrev n : ℕ
  n = cells_in z (book_latch k ws).state.blocks - length (reads S mem before ws since)

  n_left : n ≡ cells_in z k.blocks - min (steps_of since) (cells_in z k.blocks)
  n_left = ap₂ (λ (a b : ℕ). a - b) (latch-cells k ws z) total

  -- due in the latched blocks, due in those before
  due-latched : (b : ℕ) → is_due z (block_at (book_latch k ws).state.blocks b) ≡ is_due z (block_at k.blocks b)
  due-latched b = kept-due (book_latch k ws).state.blocks k.blocks (latch-kept k ws) z b

  -- unread inputs replaced
  module _ (vs : List ℕ) (u : OnlyUnread (book_latch k ws).state.blocks ws vs (reads S mem before ws since)) where
    unread : OnlyUnread k.blocks ws vs (reads_of (book_trace S m (book_latch k ws).state since))
    unread =
        latch_unread k ws ws vs (reads_of (book_trace S m (book_latch k ws).state since))
        (subst (OnlyUnread (book_latch k ws).state.blocks ws vs) reads-book u)

    goes_too : goes_on S m (book_latch k vs).state since ≡ true
    goes_too = same-goes S m k ws vs since goes-book unread

    -- the latch's own entry and those since
    same_entries : book_trace S m k (latching vs ∷ since) ≡ book_trace S m k (latching ws ∷ since)
    unfolding book_trace book_call book_latch stepped
    same_entries =
        ap₂ (λ (os : List (List ℕ)) (es : List Entry). record { answer = (book_latch k vs).answer; outputs = os } ∷ es) (same-outputs k ws vs 0 tt)
        (same-trace S m k ws vs since goes-book unread)

    entries : (us : List ℕ) → trace (fresh S mem) (before ++ (latching us ∷ since)) ≡ trace (fresh S mem) before ++ book_trace S m k (latching us ∷ since)
    entries us =
        trace-append before (latching us ∷ since) (fresh S mem)
        ∙ ap (λ (es : List Entry). trace (fresh S mem) before ++ es) (trace-same S m (latching us ∷ since) s k start)

    same_so_far_lem : trace (fresh S mem) (before ++ (latching vs ∷ since)) ≡ trace (fresh S mem) (before ++ (latching ws ∷ since))
    same_so_far_lem = entries vs ∙ ap (λ (es : List Entry). trace (fresh S mem) before ++ es) same_entries ∙ sym (entries ws)

    -- the book after the latch with us and the calls since
    abbrev book : List ℕ → Book
    book us = book_after S m (book_latch k us).state since

    since_related : (us : List ℕ) → Related S m (state_after (fresh S mem) (before ++ (latching us ∷ since))) (book us)
    since_related us =
        subst (λ (x : State). Related S m x (book us)) (sym (now us since))
        (after_related S m since (latch s us).state (book_latch k us).state (at_latch us))

    -- the scan state holds the scan's number
    number_now : (state_after (fresh S mem) (before ++ (latching ws ∷ since))).scan.number ≡ z
    unfolding book_latch
    number_now =
        let r = since_related ws in
        number_one _ z r.number (book_sound S m before).next
        (r.next ∙ ap (λ (x : Book). x.next) (scan-goes S m k ws since goes-book) ∙ stepped_next (steps_of since) (book_latch k ws).state)

    abbrev steps : List ℕ → Book
    steps us = stepped (steps_of since) (book_latch k us).state

    goes_on_lem : book vs ≡ steps vs
    goes_on_lem = scan-goes S m k vs since goes_too

    steps_reword : Rewords z (steps ws) (steps vs) vs
    unfolding book_latch
    steps_reword =
        let c = steps_of since in
        let unread-first = subst (OnlyUnread k.blocks ws vs) (scan-reads S m k ws since goes-book) unread in
        let held : (b : ℕ) → b < length (steps ws).blocks → b < length k.blocks =
        λ b l. omega (arith, l, stepped_length c (book_latch k ws).state, latch-length k ws) in
        record {
          next = stepped_next c (book_latch k vs).state ∙ sym (stepped_next c (book_latch k ws).state);
          kept = both-kept k ws vs c;
          left = same_left k ws vs c;
          outputs = λ b l. (same_at_lem k ws vs c b unread-first (held b l)).0;
          rails = λ b l. (same_at_lem k ws vs c b unread-first (held b l)).1;
          words =
              λ b l e.
              let e' = sym (due-latched b) ∙ sym (kept-due (steps ws).blocks (book_latch k ws).state.blocks (stepped_kept c (book_latch k ws).state) z b) ∙ e in
              stepped_word c (book_latch k vs).state b ∙ latch-word k vs b (held b l) e';
        }

    book_rewords : Rewords z (book ws) (book vs) vs
    book_rewords =
        subst (λ (x : Book). Rewords z x (book vs) vs) (sym (scan-goes S m k ws since goes-book))
        (subst (λ (x : Book). Rewords z (steps ws) x vs) (sym goes_on_lem) steps_reword)

    long : length (book_latch k ws).state.blocks ≡ length (book vs).blocks
    long =
        latch-length k ws ∙ sym (latch-length k vs) ∙ sym (stepped_length (steps_of since) (book_latch k vs).state)
        ∙ ap (λ (x : Book). length x.blocks) (sym goes_on_lem)

    -- the reads left from a state that is related to the book of vs
    reads-from : (t : State) → Related S m t (book vs) → ReadsLeft z (book_latch k ws).state.blocks vs n t
    reads-from t h =
        let rest = reads_left S m k vs since goes_too n n_left in
        left_from S m n t (book vs) h z (book_latch k ws).state.blocks vs long rest.0
        (λ b l d j sheet c.
        rest.1 b (omega (arith, l, latch-length k ws)) (sym (due-latched b) ∙ d) j sheet
        (kept-compiled (book_latch k ws).state.blocks k.blocks (latch-kept k ws) j sheet b c))
        (λ b l d.
        let l' : b < length k.blocks = omega (arith, l, latch-length k ws) in
        let d' = sym (due-latched b) ∙ d in
        ap (λ (x : Book). block_at (stepped n x).blocks b) goes_on_lem
        ∙ ap (λ (x : Book). block_at x.blocks b) (stepped_on n (steps_of since) (book_latch k vs).state)
        ∙ not-due_at k vs (steps_of since + n) b l' d' ∙ sym (not-due_at k vs (steps_of since) b l' d')
        ∙ ap (λ (x : Book). block_at x.blocks b) (sym goes_on_lem))

    left_in_latch_lem : ReadsLeft z (book_latch k ws).state.blocks vs n (state_after (fresh S mem) (before ++ (latching vs ∷ since)))
    left_in_latch_lem = reads-from (state_after (fresh S mem) (before ++ (latching vs ∷ since))) (since_related vs)

    left_in_scan_lem : ReadsLeft z (book_latch k ws).state.blocks vs n (reworded (state_after (fresh S mem) (before ++ (latching ws ∷ since))) vs)
    left_in_scan_lem =
        let t = state_after (fresh S mem) (before ++ (latching ws ∷ since)) in
        reads-from (reworded t vs)
        (reworded_related S m t (book ws) (book vs) vs (since_related ws)
        (subst (λ (x : ℕ). Rewords x (book ws) (book vs) vs) (sym number_now) book_rewords))

  -- a block that isn't due has the outputs that it had before the latch
  not-due : (b : ℕ) → b < length (book_latch k ws).state.blocks → is_due z (block_at (book_latch k ws).state.blocks b) ≡ false
      → outputs_of (state_after (fresh S mem) (before ++ (latching ws ∷ since))).scan b ≡ outputs_of s.scan b
  not-due b l d =
      let l' : b < length k.blocks = omega (arith, l, latch-length k ws) in
      let k' : Book = book_after S m (book_latch k ws).state since in
      let goes_on_lem : k' ≡ stepped (steps_of since) (book_latch k ws).state = scan-goes S m k ws since goes-book in
      let related : Related S m (state_after (fresh S mem) (before ++ (latching ws ∷ since))) k' =
      subst (λ (x : State). Related S m x k') (sym (now ws since)) (after_related S m since (latch s ws).state (book_latch k ws).state (at_latch ws)) in
      let long : length k'.blocks ≡ length k.blocks =
      ap (λ (x : Book). length x.blocks) goes_on_lem ∙ stepped_length (steps_of since) (book_latch k ws).state ∙ latch-length k ws in
      (related.blocks b (omega (arith, l', long))).outputs ∙ ap (λ (x : Book). (block_at x.blocks b).outputs) goes_on_lem
      ∙ ap (λ (B : Block). B.outputs) (not-due_at k ws (steps_of since) b l' (sym (due-latched b) ∙ d)) ∙ sym (start.blocks b l').outputs

  pub scan_claim : ScanClaim S mem before ws since
  unfolding book_call
  scan_claim =
      record {
        read_total = total ∙ ap (min (steps_of since)) (sym (latch-cells k ws z));
        within_limit = omega (arith, latch-cells k ws z, (book_sound S m before).limit z (book_sound S m before).next);
        same_so_far = λ vs u. same_so_far_lem vs u;
        left_in_latch = λ vs u. left_in_latch_lem vs u;
        left_in_scan = λ vs u. left_in_scan_lem vs u;
        not_due = λ b l d. not-due b l d;
      }
