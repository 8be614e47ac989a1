-- What a list of calls has read: the cells of a block read in its last due scan, and scans that are stepped to their end (document 02, §8).
-- Assumes nothing.
use Rattle.std.specs.Prelude.{ℕ, ◌+◌, Bool, true, false, cond, ◌&&◌, ◌||◌, List, [], ◌∷◌, ◌++◌, eqb, length, get_or}
use Rattle.laws.specs.Tests.{every}
use Rattle.laws.specs.Bits.{flag}
use Rattle.stored_spec.specs.StoredForm.{member, cell_at}
use Rattle.bank_spec.specs.State.{State}
use Rattle.bank_spec.specs.Calls.{Answer, accepted, refused, idle, went, latch}
use Rattle.bank_spec.specs.Book.{Place, Book, block_at, is_due, book_latch}
use Rattle.bank_spec.specs.CallLists.{Call, admission, latching, stepping, book_call, state_after, book_after, trace, read_of, reads_of, goes_on}

-- the cells of block b among those read
unfoldable pub cells_of : ℕ → List Place → List ℕ
cells_of b [] = []
cells_of b (p ∷ ps) = let rest = cells_of b ps in cond (eqb p.block b) (p.cell ∷ rest) rest

-- with this call, answered a from the book k on, a due scan of block b begins, or an admission ends all
unfoldable pub begins_anew : Book → ℕ → Call → Answer → Bool
begins_anew k b (admission h) accepted = true
begins_anew k b (admission h) (refused n) = false
begins_anew k b (admission h) idle = false
begins_anew k b (admission h) (went c d) = false
begins_anew k b (latching ws) a = is_due k.next (block_at k.blocks b)
begins_anew k b stepping a = false

-- the cells of block b read in its last due scan since the last admission. The calls are made from the book k on, where these cells are cs
unfoldable pub last_cells : ℕ → ℕ → Book → ℕ → List ℕ → List Call → List ℕ
last_cells S m k b cs [] = cs
last_cells S m k b cs (c ∷ calls) =
    let r = book_call S m k c in
    last_cells S m r.state b (cond (begins_anew k b c r.answer) [] (cs ++ cells_of b (read_of r.answer))) calls

-- o is an output of one of the cells, of records R
unfoldable pub set_by : List ℕ → List ℕ → ℕ → Bool
set_by R [] o = false
set_by R (c ∷ cs) o = member o (cell_at R c).outs || set_by R cs o

-- a scan of a list of calls: the words of its latch, and the calls since
pub record Round : Type 0 where
  pub words : List ℕ
  pub since : List Call

unfoldable pub calls_of : List Round → List Call
calls_of [] = []
calls_of (r ∷ rs) = latching r.words ∷ (r.since ++ calls_of rs)

abbrev pub none : List Place → Bool
none ps = eqb (length ps) 0

-- each scan is stepped to its end, and nothing is admitted. The calls are made from the book k on
unfoldable pub stepped_out : ℕ → ℕ → Book → List Round → Bool
stepped_out S m k [] = true
stepped_out S m k (r ∷ rs) =
    let l = (book_latch k r.words).state in
    let e = book_after S m l r.since in
    goes_on S m l r.since && none e.to_read && stepped_out S m e rs

-- a block of n cells is read whole: the cells 0 to n - 1, in their order
unfoldable pub is_whole : ℕ → List ℕ → Bool
is_whole n cs = eqb (length cs) n && every n (λ c. eqb (get_or cs c n) c)

-- in how many of the scans block b, which has n cells, is read whole. The calls are made from the state s on
unfoldable pub whole_reads : State → List Round → ℕ → ℕ → ℕ
whole_reads s [] b n = 0
whole_reads s (r ∷ rs) b n =
    let l = (latch s r.words).state in
    flag (is_whole n (cells_of b (reads_of (trace l r.since)))) + whole_reads (state_after l r.since) rs b n
