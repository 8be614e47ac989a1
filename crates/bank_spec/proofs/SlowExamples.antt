-- Computed examples of periods and phases (document 02, §8): A's block admitted twice with period 2 and phases 0 and 1, with S 2. What the clauses of
-- demand 3 ask of blocks that are due and that aren't, and of eight scans, is met.
-- Assumes nothing.
use mathlib.Core.Path.{◌≡◌, refl}
use mathlib.Core.Bool.{true, false}
use mathlib.Core.List.{List, [], ◌∷◌, ◌++◌}
use lib.ListN.{length, replicate}
use Rattle.sheet_spec.specs.Opened.{sheet_opened}
use Rattle.cutting_spec.specs.Opened.{cutting_opened}
use Rattle.cutting_spec.specs.Example.{records_a, row_bytes_a}
use Rattle.bank_spec.specs.Opened.{bank_opened}
use Rattle.bank_spec.specs.State.{State, fresh}
use Rattle.bank_spec.specs.Calls.{handed}
use Rattle.bank_spec.specs.Book.{Book, new_book, block_at, is_due, cells_in}
use Rattle.bank_spec.specs.CallLists.{Call, admission, latching, stepping, book_call, state_after, book_after, goes_on}
use Rattle.bank_spec.specs.Scanned.{last_cells, set_by, Round, stepped_out, whole_reads}
use Rattle.bank_spec.specs.Demand3.{output_in}

abbrev in_turn : List Call
in_turn = admission (handed records_a row_bytes_a 2 0) ∷ admission (handed records_a row_bytes_a 2 1) ∷ []

abbrev at_start : Book
at_start = book_after 2 64 new_book in_turn

abbrev state_at_start : State
state_at_start = state_after (fresh 2 (replicate 64 9)) in_turn

-- scan 0, with one of its two cells read: it goes on, the first block is due and the second isn't
abbrev one_read : List Call
one_read = stepping ∷ []

pub goes_on_lem : goes_on 2 64 (book_call 2 64 at_start (latching (5 ∷ 5 ∷ []))).state one_read ≡ true
unfolding sheet_opened cutting_opened bank_opened
goes_on_lem = refl

pub first-due : (is_due at_start.next (block_at at_start.blocks 0) ≡ true) × (is_due at_start.next (block_at at_start.blocks 1) ≡ false)
    × (cells_in at_start.next at_start.blocks ≡ 2)
unfolding sheet_opened cutting_opened bank_opened
first-due = (refl, refl, refl)

-- after a whole scan 0 and one read of scan 1: the cells of the first block are those of its last due scan, so its outputs are still set
abbrev into_second : List Call
into_second = in_turn ++ (latching (5 ∷ 5 ∷ []) ∷ stepping ∷ stepping ∷ latching (0 ∷ 0 ∷ []) ∷ stepping ∷ [])

pub last_read : (last_cells 2 64 new_book 0 [] into_second ≡ 0 ∷ 1 ∷ []) × (last_cells 2 64 new_book 1 [] into_second ≡ 0 ∷ [])
unfolding sheet_opened cutting_opened bank_opened
last_read = (refl, refl)

pub still_set : (set_by records_a (0 ∷ 1 ∷ []) 0 ≡ true) × (output_in (state_after (fresh 2 (replicate 64 9)) into_second) 0 0 ≡ 1)
    × (output_in (state_after (fresh 2 (replicate 64 9)) into_second) 1 0 ≡ 2)
unfolding sheet_opened cutting_opened bank_opened
still_set = (refl, refl, refl)

-- its word is the one of that scan
pub word_kept : ((block_at (book_after 2 64 new_book into_second).blocks 0).word ≡ 5) × ((block_at (book_after 2 64 new_book into_second).blocks 1).word ≡ 0)
unfolding sheet_opened cutting_opened bank_opened
word_kept = (refl, refl)

-- a dropped scan leaves unset what it didn't reach, and an admission all
pub dropped : last_cells 2 64 new_book 0 [] (in_turn ++ (latching (5 ∷ []) ∷ stepping ∷ stepping ∷ latching [] ∷ latching (5 ∷ []) ∷ [])) ≡ []
unfolding sheet_opened cutting_opened bank_opened
dropped = refl

-- eight scans stepped to their end, from any of the numbers on: here from 1, after one latch
abbrev eight_rounds : List Round
eight_rounds = replicate 8 (record { words = 5 ∷ 0 ∷ []; since = stepping ∷ stepping ∷ [] })

abbrev after_one : List Call
after_one = in_turn ++ (latching [] ∷ [])

pub eight_out : (length eight_rounds ≡ 8) × (stepped_out 2 64 (book_after 2 64 new_book after_one) eight_rounds ≡ true)
unfolding sheet_opened cutting_opened bank_opened
eight_out = (refl, refl)

pub eight-whole : (whole_reads (state_after (fresh 2 (replicate 64 9)) after_one) eight_rounds 0 2 ≡ 4)
    × (whole_reads (state_after (fresh 2 (replicate 64 9)) after_one) eight_rounds 1 2 ≡ 4)
unfolding sheet_opened cutting_opened bank_opened
eight-whole = (refl, refl)

-- a scan that isn't stepped to its end is not counted among such
pub not_out : stepped_out 2 64 at_start (record { words = []; since = stepping ∷ [] } ∷ []) ≡ false
unfolding sheet_opened cutting_opened bank_opened
not_out = refl
