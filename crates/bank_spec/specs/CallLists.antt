-- Lists of calls, on the bank and in the book, and what is compared after each (document 01, "The book of demand 3").
-- Assumes nothing.
use Rattle.std.specs.Prelude.{ℕ, suc, Bool, true, false, cond, List, [], ◌∷◌, ◌++◌, map}
use Rattle.laws.specs.Lists.{tab}
use Rattle.bank_spec.specs.State.{State}
use Rattle.bank_spec.specs.Calls.{Answer, accepted, refused, idle, went, After, Handed, admit, latch, step, outputs_of}
use Rattle.bank_spec.specs.Book.{Place, Book, book_admit, book_latch, book_step}

-- an admission of a block that is handed in, a latch with its words, or a step
pub data Call : Type 0 where
  admission : Handed → Call
  latching : List ℕ → Call
  stepping : Call

-- each call gets bank, scan state and row memory as the last one left them
unfoldable pub call : State → Call → After State
call s (admission h) = admit s h
call s (latching ws) = latch s ws
call s stepping = step s

unfoldable pub book_call : ℕ → ℕ → Book → Call → After Book
book_call S m k (admission h) = book_admit S m k h
book_call S m k (latching ws) = book_latch k ws
book_call S m k stepping = book_step k

-- what a list of calls leaves
unfoldable pub state_after : State → List Call → State
state_after s [] = s
state_after s (c ∷ cs) = let r = call s c in state_after r.state cs

unfoldable pub book_after : ℕ → ℕ → Book → List Call → Book
book_after S m k [] = k
book_after S m k (c ∷ cs) = let r = book_call S m k c in book_after S m r.state cs

-- compared after each call are its answer and, for each block, which outputs are set and to what
pub record Entry : Type 0 where
  pub answer : Answer
  pub outputs : List (List ℕ)

unfoldable pub outputs_held : State → List (List ℕ)
outputs_held s = tab s.bank.count (outputs_of s.scan)

unfoldable pub outputs_in_book : Book → List (List ℕ)
outputs_in_book k = map (λ b. b.outputs) k.blocks

unfoldable pub trace : State → List Call → List Entry
trace s [] = []
trace s (c ∷ cs) = let r = call s c in record { answer = r.answer; outputs = outputs_held r.state } ∷ trace r.state cs

unfoldable pub book_trace : ℕ → ℕ → Book → List Call → List Entry
book_trace S m k [] = []
book_trace S m k (c ∷ cs) =
    let r = book_call S m k c in
    record { answer = r.answer; outputs = outputs_in_book r.state } ∷ book_trace S m r.state cs

-- a read is a step answered Went: the cells read, in their order
unfoldable pub read_of : Answer → List Place
read_of accepted = []
read_of (refused n) = []
read_of idle = []
read_of (went b c) = record { block = b; cell = c } ∷ []

unfoldable pub reads_of : List Entry → List Place
reads_of [] = []
reads_of (e ∷ es) = read_of e.answer ++ reads_of es

-- how many of the calls are steps
unfoldable pub steps_of : List Call → ℕ
steps_of [] = 0
steps_of (admission h ∷ cs) = steps_of cs
steps_of (latching ws ∷ cs) = steps_of cs
steps_of (stepping ∷ cs) = suc (steps_of cs)

-- a scan runs from a latch to the next latch or accepted admission: none of the calls, made from the book k on, ends it
unfoldable pub ends : Call → Answer → Bool
ends (admission h) accepted = true
ends (admission h) (refused n) = false
ends (admission h) idle = false
ends (admission h) (went b c) = false
ends (latching ws) a = true
ends stepping a = false

unfoldable pub goes_on : ℕ → ℕ → Book → List Call → Bool
goes_on S m k [] = true
goes_on S m k (c ∷ cs) =
    let r = book_call S m k c in
    let rest = goes_on S m r.state cs in
    cond (ends c r.answer) false rest
