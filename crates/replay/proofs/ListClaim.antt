-- Demand 3 on the code that runs a whole list: `list_demand3`. What `replay` writes for a bank made with S and a list of calls is the trace of the
-- bank and of the book, the rows it leaves are the bank's, and every clause of demand 3 holds of the list.
-- It speaks of the lists that can be written in bytes (`all_fit`). What is left out is an admission of 65,536 or more bytes of records or of
-- 16,777,216 or more bytes of rows, which every bank refuses with 12, and one with a period or a phase of 256 or more, which it refuses with 12 or
-- 16; nothing changes then (`uncoded_refused`, `untimed_refused`), so no list is lost by it. Else `all_fit` asks that bytes are bytes, words are
-- words of 16 bits, and that a latch has eight of them, which no caller of the code can break.
-- Assumes nothing.
use mathlib.Core.Path.{◌≡◌, refl, sym, ◌∙◌, ap, ap₂}
use mathlib.Core.Logic.{◌⊎◌, inl, inr}
use mathlib.Core.Bool.{Bool, true, false, ◌&&◌, and-false}
use mathlib.Core.List.{List, [], ◌∷◌, map}
use Prim.Native.Nat.{ℕ, suc, ◌*◌, ◌≤◌}
use native.Mathlib.Omega.{arith}
use lib.ListN.{length, length-map}
use borrow.Author.Tests.{le-ltb}
use Rattle.laws.specs.Tests.{within}
use Rattle.laws.specs.Lists.{written}
use Rattle.laws.proofs.Cases.{either, no_test, by_test}
use Rattle.stored_spec.specs.StoredForm.{row_count, well_formed}
use Rattle.stored_spec.specs.RowBytes.{two_bytes}
use Rattle.stored_spec.proofs.Promises.{records_have, formed-records, row-bytes, room_two}
use Rattle.bank_spec.specs.State.{State, fresh, formed, limit_refused}
use Rattle.bank_spec.specs.Calls.{accepted, refused, numbered, Handed, admit_refusal, admit}
use Rattle.bank_spec.specs.Book.{Book, new_book}
use Rattle.bank_spec.specs.CallLists.{Call, admission, call, book_call, state_after, Entry, outputs_in_book, trace, book_trace}
use Rattle.bank_spec.specs.Demand3.{Demand3}
use Rattle.bank_spec.specs.Due.{timed}
use Rattle.bank_spec.proofs.Promises.{timed-small, demand3}
use Rattle.replay.specs.Coded.{Coded, making, calling, codes_of, all_fit}
use Rattle.replay.specs.Entries.{no_bank, in_book, book_entries, on_bank, bank_after, trace_bytes}
use Rattle.replay.specs.Replay.{replay}
use Rattle.replay.proofs.Written.{calls_coded, coded_readable}

-- a bank is made with S, then the calls come
abbrev pub made_with : ℕ → List Call → List Coded
made_with S calls = making S ∷ map calling calls

-- with a bank made, the entries are the book's trace
calls_trace : (S m : ℕ) → within 1 255 S ≡ true → (k : Book) (calls : List Call)
    → book_entries m (record { limit = S; book = k }) (map calling calls) ≡ book_trace S m k calls
unfolding book_entries book_trace in_book limit_refused
calls_trace S m e k [] = refl
calls_trace S m e k (c ∷ calls) =
    rw e
    (ap (λ (es : List Entry). record { answer = (book_call S m k c).answer; outputs = outputs_in_book (book_call S m k c).state } ∷ es)
    (calls_trace S m e (book_call S m k c).state calls))

made-trace : (S m : ℕ) → within 1 255 S ≡ true → (calls : List Call)
    → book_entries m no_bank (made_with S calls) ≡ record { answer = accepted; outputs = [] } ∷ book_trace S m new_book calls
unfolding book_entries in_book limit_refused outputs_in_book
made-trace S m e calls =
    rw e (ap (λ (es : List Entry). record { answer = accepted; outputs = [] } ∷ es) (calls_trace S m e new_book calls))

-- S in range, any calls whose numbers fit, any row memory, a trace long enough
pub list_claim : (S : ℕ) → within 1 255 S ≡ true → (calls : List Call) → all_fit (made_with S calls) ≡ true → (rows trace : List ℕ)
    → 68 * suc (length calls) ≤ length trace
    → replay (codes_of (made_with S calls)) rows trace
    ≡ record {
      refusal = 0;
      rows = (bank_after (fresh 0 rows) (made_with S calls)).rows;
      trace = written trace 0 (trace_bytes (record { answer = accepted; outputs = [] } ∷ book_trace S (length rows) new_book calls));
    }
unfolding replay
list_claim S e calls fit rows trace room =
    let enough : 68 * length (made_with S calls) ≤ length trace = omega (arith, length-map calls (λ (c : Call). calling c)) in
    rw (coded_readable (made_with S calls) fit, calls_coded (made_with S calls) fit, le-ltb (length trace) (68 * length (made_with S calls)) enough)
    (ap
    (λ (es : List Entry). record { refusal = 0; rows = (bank_after (fresh 0 rows) (made_with S calls)).rows; trace = written trace 0 (trace_bytes es) })
    (made-trace S (length rows) e calls))

-- the state after the calls is the bank's
calls_after : (s : State) (calls : List Call) → bank_after s (map calling calls) ≡ state_after s calls
unfolding bank_after state_after on_bank
calls_after s [] = refl
calls_after s (c ∷ calls) = calls_after (call s c).state calls

made-fresh : (S : ℕ) → within 1 255 S ≡ true → (rows : List ℕ) → (on_bank (fresh 0 rows) (making S)).state ≡ fresh S rows
unfolding on_bank limit_refused
made-fresh S e rows = rw e refl

made_after : (S : ℕ) → within 1 255 S ≡ true → (rows : List ℕ) (calls : List Call)
    → bank_after (fresh 0 rows) (made_with S calls) ≡ state_after (fresh S rows) calls
unfolding bank_after
made_after S e rows calls = ap (λ (s : State). bank_after s (map calling calls)) (made-fresh S e rows) ∙ calls_after (fresh S rows) calls

-- what `replay` writes is the bank's trace, which is the book's (`as_book` of demand 3); the rows are those that the calls leave
pub list_demand3 : (S : ℕ) → within 1 255 S ≡ true → (calls : List Call) → all_fit (made_with S calls) ≡ true → (rows mem : List ℕ)
    → 68 * suc (length calls) ≤ length mem
    → (replay (codes_of (made_with S calls)) rows mem
    ≡ record {
      refusal = 0;
      rows = (state_after (fresh S rows) calls).rows;
      trace = written mem 0 (trace_bytes (record { answer = accepted; outputs = [] } ∷ trace (fresh S rows) calls));
    })
    × Demand3 S rows calls
list_demand3 S e calls fit rows mem room =
    let d = demand3 S e rows calls in (
      list_claim S e calls fit rows mem room
          ∙ ap₂
          (λ (s : State) (es : List Entry).
          record { refusal = 0; rows = s.rows; trace = written mem 0 (trace_bytes (record { answer = accepted; outputs = [] } ∷ es)) })
          (made_after S e rows calls) (sym d.as_book),
      d,
    )

-- well formed records have at most 80 bytes, and their rows at most 65,536
too_long : (R bytes : List ℕ) → (65536 ≤ length R) ⊎ (16777216 ≤ length bytes) → well_formed R bytes ≡ true → ⊥
too_long R bytes l e =
    let have = records_have two_bytes R (formed-records R bytes e) in
    either l (λ p. omega (arith, have.whole, have.few)) (λ p. omega (arith, row-bytes R bytes e, room_two (row_count R), have.rows))

pub uncoded_refused : (s : State) (h : Handed) → (65536 ≤ length h.records) ⊎ (16777216 ≤ length h.rows)
    → call s (admission h) ≡ record { answer = refused 12; state = s }
unfolding call admit admit_refusal numbered
uncoded_refused s h l =
    let no = no_test (well_formed h.records h.rows) (too_long h.records h.rows l) in
    let none : (formed s.bank s.scan && well_formed h.records h.rows) ≡ false =
    ap (λ (b : Bool). formed s.bank s.scan && b) no ∙ and-false (formed s.bank s.scan) in
    rw none refl

-- a period or a phase of 256 or more is wrong
too_great : (h : Handed) → (256 ≤ h.period) ⊎ (256 ≤ h.phase) → timed h.period h.phase ≡ true → ⊥
too_great h l e =
    let small = timed-small h.period h.phase e in
    either l (λ p. omega (arith, small.0)) (λ p. omega (arith, small.1))

pub untimed_refused : (s : State) (h : Handed) → (256 ≤ h.period) ⊎ (256 ≤ h.phase)
    → (call s (admission h) ≡ record { answer = refused 12; state = s }) ⊎ (call s (admission h) ≡ record { answer = refused 16; state = s })
unfolding call admit admit_refusal numbered
untimed_refused s h l =
    let no = no_test (timed h.period h.phase) (too_great h l) in
    by_test (formed s.bank s.scan && well_formed h.records h.rows) (λ e. inr (rw (e, no) refl)) (λ e. inl (rw e refl))
