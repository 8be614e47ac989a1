-- What is compared after each call on a bank is what the book has, with banks made among the calls; the row memory keeps its length.
-- Assumes nothing.
use mathlib.Core.Path.{◌≡◌, refl, sym, ◌∙◌, ap, ap₂}
use mathlib.Core.Logic.{◌⊎◌, inl, inr}
use mathlib.Core.Bool.{Bool, true, false, not}
use mathlib.Core.List.{List, [], ◌∷◌}
use Prim.Native.Nat.{ℕ}
use lib.ListN.{length}
use Rattle.laws.specs.Tests.{within}
use Rattle.laws.proofs.Cases.{by_test}
use Rattle.bank_spec.specs.State.{State, fresh, formed, bank_formed, limit_refused}
use Rattle.bank_spec.specs.Calls.{Answer, refused, After, numbered, admit_refusal, admit, latch, step}
use Rattle.bank_spec.specs.Book.{new_book}
use Rattle.bank_spec.specs.CallLists.{Call, admission, latching, stepping, call, Entry, outputs_held, outputs_in_book}
use Rattle.bank_spec.proofs.Promises.{Related, same-outputs, call_same, fresh_related}
use Rattle.replay.specs.Coded.{Coded, making, calling}
use Rattle.replay.specs.Entries.{Kept, no_bank, in_book, book_entries, on_bank, bank_after}

-- what is compared after a call
abbrev pub entry_of : After State → Entry
entry_of r = record { answer = r.answer; outputs = outputs_held r.state }

-- what is compared after each call, on a bank
unfoldable pub bank_entries : State → List Coded → List Entry
bank_entries s [] = []
bank_entries s (c ∷ cs) = let r = on_bank s c in entry_of r ∷ bank_entries r.state cs

-- no bank is made on either side, or the bank is the one in the book
abbrev Tied : ℕ → State → Kept → Type 0
Tied m s k = ((s ≡ fresh 0 s.rows) × (k ≡ no_bank) × (length s.rows ≡ m)) ⊎ Related k.limit m s k.book

-- a call is answered alike, and what it leaves is tied
record Same (m : ℕ) (a : After State) (r : After Kept) : Type 0 where
  answers : a.answer ≡ r.answer
  tied : Tied m a.state r.state

in_range : (S : ℕ) → limit_refused S ≡ false → within 1 255 S ≡ true
unfolding limit_refused
in_range S = by (within 1 255 S)
  where
    by : (b : Bool) → not b ≡ false → b ≡ true
    by true e = refl
    by false e = sym e

range_accepted : (S : ℕ) → within 1 255 S ≡ true → limit_refused S ≡ false
unfolding limit_refused
range_accepted S e = ap not e

-- with no bank made every call gives 12 and changes nothing
no_bank_lem : (rows : List ℕ) (c : Call) → call (fresh 0 rows) c ≡ record { answer = refused 12; state = fresh 0 rows }
unfolding call admit admit_refusal numbered latch step formed bank_formed
no_bank_lem rows (admission h) = refl
no_bank_lem rows (latching ws) = refl
no_bank_lem rows stepping = refl

none-held : (rows : List ℕ) → outputs_held (fresh 0 rows) ≡ outputs_in_book new_book
unfolding outputs_held outputs_in_book
none-held rows = refl

tied_outputs : (m : ℕ) (s : State) (k : Kept) → Tied m s k → outputs_held s ≡ outputs_in_book k.book
tied_outputs m s k (inl (e, f, l)) = ap outputs_held e ∙ none-held s.rows ∙ ap (λ (x : Kept). outputs_in_book x.book) (sym f)
tied_outputs m s k (inr h) = same-outputs k.limit m s k.book h

tied_rows : (m : ℕ) (s : State) (k : Kept) → Tied m s k → length s.rows ≡ m
tied_rows m s k (inl (e, f, l)) = l
tied_rows m s k (inr h) = h.rows

made-same : (m : ℕ) (s : State) (k : Kept) → Tied m s k → (S : ℕ) → Same m (on_bank s (making S)) (in_book m k (making S))
unfolding on_bank in_book
made-same m s k h S =
    by_test (limit_refused S) (λ e. rw e (record { answers = refl; tied = h }))
    (λ e.
    rw e
    (record {
      answers = refl;
      tied = inr (rw (tied_rows m s k h) at (fresh_related S (in_range S e) s.rows));
    }))

called_same : (m : ℕ) (s : State) (k : Kept) → Tied m s k → (c : Call) → Same m (on_bank s (calling c)) (in_book m k (calling c))
unfolding on_bank in_book limit_refused
called_same m s k (inl (e, f, l)) c = rw (e, f, no_bank_lem s.rows c) (record { answers = refl; tied = inl (refl, refl, l) })
called_same m s k (inr h) c =
    let r = call_same k.limit m s k.book h c in
    rw (range_accepted k.limit h.range) (record { answers = r.answers; tied = inr r.related })

coded_same : (m : ℕ) (s : State) (k : Kept) → Tied m s k → (c : Coded) → Same m (on_bank s c) (in_book m k c)
coded_same m s k h (making S) = made-same m s k h S
coded_same m s k h (calling c) = called_same m s k h c

tied_entries : (m : ℕ) (cs : List Coded) (s : State) (k : Kept) → Tied m s k → bank_entries s cs ≡ book_entries m k cs
unfolding bank_entries book_entries
tied_entries m [] s k h = refl
tied_entries m (c ∷ cs) s k h =
    let r = coded_same m s k h c in
    ap₂ (λ (e : Entry) (es : List Entry). e ∷ es)
    (ap₂ (λ (a : Answer) (o : List (List ℕ)). record { answer = a; outputs = o }) r.answers
    (tied_outputs m (on_bank s c).state (in_book m k c).state r.tied))
    (tied_entries m cs (on_bank s c).state (in_book m k c).state r.tied)

tied_after : (m : ℕ) (cs : List Coded) (s : State) (k : Kept) → Tied m s k → length (bank_after s cs).rows ≡ m
unfolding bank_after
tied_after m [] s k h = tied_rows m s k h
tied_after m (c ∷ cs) s k h = tied_after m cs (on_bank s c).state (in_book m k c).state (coded_same m s k h c).tied

pub entries_same : (rows : List ℕ) (cs : List Coded) → bank_entries (fresh 0 rows) cs ≡ book_entries (length rows) no_bank cs
entries_same rows cs = tied_entries (length rows) cs (fresh 0 rows) no_bank (inl (refl, refl, refl))

pub rows-kept : (rows : List ℕ) (cs : List Coded) → length (bank_after (fresh 0 rows) cs).rows ≡ length rows
rows-kept rows cs = tied_after (length rows) cs (fresh 0 rows) no_bank (inl (refl, refl, refl))
