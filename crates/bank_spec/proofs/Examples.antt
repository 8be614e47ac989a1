-- Computed examples: A's block twice with S 3 and S 4, and a whole scan of both, on the bank and in the book.
-- Assumes nothing.
use mathlib.Core.Path.{◌≡◌, refl}
use mathlib.Core.List.{List, [], ◌∷◌, map}
use Prim.Native.Nat.{ℕ}
use lib.ListN.{replicate}
use Rattle.sheet_spec.specs.Opened.{sheet_opened}
use Rattle.cutting_spec.specs.Opened.{cutting_opened}
use Rattle.cutting_spec.specs.Example.{records_a, row_bytes_a}
use Rattle.bank_spec.specs.Opened.{bank_opened}
use Rattle.bank_spec.specs.State.{fresh}
use Rattle.bank_spec.specs.Calls.{Answer, accepted, refused, idle, went, every_scan}
use Rattle.bank_spec.specs.Book.{new_book}
use Rattle.bank_spec.specs.CallLists.{Call, admission, latching, stepping, Entry, trace, book_trace}

abbrev admit_a : Call
admit_a = admission (every_scan records_a row_bytes_a)

abbrev answers : List Entry → List Answer
answers es = map (λ e. e.answer) es

-- K: cells are counted over the bank
pub twice_3 : answers (trace (fresh 3 (replicate 64 9)) (admit_a ∷ admit_a ∷ [])) ≡ accepted ∷ refused 14 ∷ []
unfolding sheet_opened cutting_opened bank_opened
twice_3 = refl

pub twice_3_book : answers (book_trace 3 64 new_book (admit_a ∷ admit_a ∷ [])) ≡ accepted ∷ refused 14 ∷ []
unfolding sheet_opened cutting_opened bank_opened
twice_3_book = refl

-- L, then a scan: the first block's word is x1x2x3x4 = 1010, the second's 0000 with bits above 11
abbrev scan_of_both : List Call
scan_of_both = admit_a ∷ admit_a ∷ stepping ∷ latching (5 ∷ 61440 ∷ []) ∷ stepping ∷ stepping ∷ stepping ∷ stepping ∷ stepping ∷ []

abbrev nothing : List ℕ
nothing = replicate 8 2

abbrev said : Answer → List (List ℕ) → Entry
said a os = record { answer = a; outputs = os }

-- y1 and y2 are 1 and 0 in the first block, 0 and 1 in the second
abbrev expected : List Entry
expected =
    let first : List ℕ = 1 ∷ 0 ∷ 2 ∷ 2 ∷ 2 ∷ 2 ∷ 2 ∷ 2 ∷ [] in
    let second : List ℕ = 0 ∷ 1 ∷ 2 ∷ 2 ∷ 2 ∷ 2 ∷ 2 ∷ 2 ∷ [] in
    said accepted (nothing ∷ [])
    ∷ said accepted (nothing ∷ nothing ∷ [])
    ∷ said idle (nothing ∷ nothing ∷ [])
    ∷ said accepted (nothing ∷ nothing ∷ [])
    ∷ said (went 0 0) (nothing ∷ nothing ∷ [])
    ∷ said (went 0 1) (first ∷ nothing ∷ [])
    ∷ said (went 1 0) (first ∷ nothing ∷ [])
    ∷ said (went 1 1) (first ∷ second ∷ [])
    ∷ said idle (first ∷ second ∷ [])
    ∷ []

pub scan_4 : trace (fresh 4 (replicate 64 9)) scan_of_both ≡ expected
unfolding sheet_opened cutting_opened bank_opened
scan_4 = refl

pub scan_4_book : book_trace 4 64 new_book scan_of_both ≡ expected
unfolding sheet_opened cutting_opened bank_opened
scan_4_book = refl

-- 63 bytes of row memory: 11
pub short-rows : answers (trace (fresh 4 (replicate 63 9)) (admit_a ∷ admit_a ∷ [])) ≡ accepted ∷ refused 11 ∷ []
unfolding sheet_opened cutting_opened bank_opened
short-rows = refl
