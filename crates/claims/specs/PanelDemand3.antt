-- Demand 3 of the functions that firmware calls: one claim about a whole list of exported calls, wherever it breaks off.
-- Assumes nothing.
use Rattle.std.specs.Prelude.{◌≡◌, List, ℕ, length}
use Rattle.bank_spec.specs.State.{fresh}
use Rattle.bank_spec.specs.Book.{new_book}
use Rattle.bank_spec.specs.CallLists.{Call, state_after, book_trace}
use Rattle.bank_spec.specs.Demand3.{Demand3, reworded}
use Rattle.claims.specs.ExportedCalls.{Lent, lent, held, number, exported_new, lent_after, exported_trace, in_numbers, with_words}

-- a bank made with S in any 667 and 86 bytes, lent the row memory rows, and the list of calls
module _ (S : ℕ) (bank scan rows : List ℕ) where
  abbrev pub begun : Lent
  begun = (exported_new S (lent bank scan rows)).after

  pub record PanelDemand3 (calls : List Call) : Type 0 where
    -- the bank is made
    pub made : (exported_new S (lent bank scan rows)).said ≡ number 0
    -- every answer that C gets, and the outputs that stand in the bytes after it, are exactly those of the book
    pub as_book : exported_trace begun calls ≡ in_numbers calls (book_trace S (length rows) new_book calls)
    -- the states of which demand 3 speaks are those that the bytes hold, after any calls
    pub holds : (cs : List Call) → held (lent_after begun cs) ≡ state_after (fresh S rows) cs
    -- also where words are replaced in the bytes of the scan state, and after any calls from there on
    pub holds_replaced : (cs : List Call) (vs : List ℕ) → length vs ≡ 8 → (ds : List Call)
        → held (lent_after (with_words (lent_after begun cs) vs) ds) ≡ state_after (reworded (state_after (fresh S rows) cs) vs) ds
    -- and all of demand 3 holds of them
    pub whole : Demand3 S rows calls
