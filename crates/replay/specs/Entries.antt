-- A list of calls with banks made in it: in the book and on a bank, and the bytes that say what is compared after each call.
-- Assumes nothing.
use Rattle.std.specs.Prelude.{ℕ, ◌/◌, ◌%◌, cond, List, [], ◌∷◌, ◌++◌, length, get_or}
use Rattle.laws.specs.Lists.{tab}
use Rattle.bank_spec.specs.State.{State, fresh, limit_refused}
use Rattle.bank_spec.specs.Calls.{Answer, accepted, refused, idle, went, After}
use Rattle.bank_spec.specs.Book.{Book, new_book}
use Rattle.bank_spec.specs.CallLists.{call, book_call, Entry, outputs_in_book}
use Rattle.replay.specs.Coded.{Coded, making, calling}

-- a bank's S and its book; S is 0 while no bank is made
pub record Kept : Type 0 where
  pub limit : ℕ
  pub book : Book

abbrev pub no_bank : Kept
no_bank = record { limit = 0; book = new_book }

-- a bank made with S has a new book; with S out of range it is refused with 1, and what was there stays. A call with no bank made is
-- refused with 12, every other is the book's. m is the length of the row memory
unfoldable pub in_book : ℕ → Kept → Coded → After Kept
in_book m k (making S) =
    cond (limit_refused S) (record { answer = refused 1; state = k })
    (record { answer = accepted; state = record { limit = S; book = new_book } })
in_book m k (calling c) =
    let r = book_call k.limit m k.book c in
    cond (limit_refused k.limit) (record { answer = refused 12; state = k })
    (record { answer = r.answer; state = record { limit = k.limit; book = r.state } })

-- what is compared after each call, by the book
unfoldable pub book_entries : ℕ → Kept → List Coded → List Entry
book_entries m k [] = []
book_entries m k (c ∷ cs) =
    let r = in_book m k c in
    record { answer = r.answer; outputs = outputs_in_book r.state.book } ∷ book_entries m r.state cs

-- the same calls on a bank, its scan state and row memory
unfoldable pub on_bank : State → Coded → After State
on_bank s (making S) =
    cond (limit_refused S) (record { answer = refused 1; state = s }) (record { answer = accepted; state = fresh S s.rows })
on_bank s (calling c) = call s c

unfoldable pub bank_after : State → List Coded → State
bank_after s [] = s
bank_after s (c ∷ cs) = let r = on_bank s c in bank_after r.state cs

-- an answer's three bytes
unfoldable pub kind_of : Answer → ℕ
kind_of accepted = 0
kind_of (refused n) = 1
kind_of idle = 2
kind_of (went b c) = 3

unfoldable pub first_of : Answer → ℕ
first_of accepted = 0
first_of (refused n) = n
first_of idle = 0
first_of (went b c) = b

unfoldable pub second_of : Answer → ℕ
second_of accepted = 0
second_of (refused n) = 0
second_of idle = 0
second_of (went b c) = c

-- 68 bytes: the answer, the number of blocks, and 64 outputs, eight a block place: 0 or 1 where set, else 2
unfoldable pub entry_bytes : Entry → List ℕ
entry_bytes e =
    let a = e.answer in
    kind_of a ∷ first_of a ∷ second_of a ∷ length e.outputs ∷ tab 64 (λ i. get_or (get_or e.outputs (i / 8) []) (i % 8) 2)

unfoldable pub trace_bytes : List Entry → List ℕ
trace_bytes [] = []
trace_bytes (e ∷ es) = entry_bytes e ++ trace_bytes es
