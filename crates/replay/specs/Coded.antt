-- A list of calls in bytes, one call after another.
--   0, S                          makes a bank with S
--   1, R, Q, R bytes, Q bytes     admits the block with these records and row bytes, for every scan
--   2, eight words                latches the words
--   3                             steps
--   4, R, Q, period, phase, R bytes, Q bytes
--                                 admits the block with this period and phase
-- S, R and the words are two bytes each, the low byte first. Q has three, since a block may have 65,536 row bytes. Period and phase have one.
-- Assumes nothing.
use Rattle.std.specs.Prelude.{ℕ, zero, suc, ◌+◌, ◌*◌, ◌/◌, ◌%◌, Bool, true, cond, ◌&&◌, List, [], ◌∷◌, ◌++◌, eqb, leb, ltb, length, get_or, take, drop}
use Rattle.laws.specs.Lists.{tab, joined}
use Rattle.laws.specs.Tests.{every}
use Rattle.bank_spec.specs.Calls.{Handed, handed}
use Rattle.bank_spec.specs.CallLists.{Call, admission, latching, stepping}

-- a bank made with S, or a call on the bank that was made last
pub data Coded : Type 0 where
  making : ℕ → Coded
  calling : Call → Coded

-- the number in the two bytes at place i
unfoldable pub pair : List ℕ → ℕ → ℕ
pair l i = get_or l i 0 + 256 * get_or l (i + 1) 0

-- the number in the three bytes at place i
unfoldable pub triple : List ℕ → ℕ → ℕ
triple l i = pair l i + 65536 * get_or l (i + 2) 0

-- how many bytes the call at the front says it has; 0 where its first byte names none
unfoldable pub said_size : List ℕ → ℕ
said_size l =
    let code = get_or l 0 0 in
    cond (eqb code 0) 3
    (cond (eqb code 1) (6 + pair l 1 + triple l 3)
    (cond (eqb code 2) 17 (cond (eqb code 3) 1 (cond (eqb code 4) (8 + pair l 1 + triple l 3) 0))))

-- how many it has; 0 where no whole call stands at the front
unfoldable pub size : List ℕ → ℕ
size l = cond (leb (said_size l) (length l)) (said_size l) 0

-- the block whose records and rows stand from place i on
abbrev pub block_from : ℕ → List ℕ → ℕ → ℕ → Handed
block_from i l period phase = handed (take (pair l 1) (drop i l)) (take (triple l 3) (drop (i + pair l 1) l)) period phase

-- the call at the front, where a whole one stands there
unfoldable pub first : List ℕ → Coded
first l =
    let code = get_or l 0 0 in
    cond (eqb code 0) (making (pair l 1))
    (cond (eqb code 1) (calling (admission (block_from 6 l 1 0)))
    (cond (eqb code 2) (calling (latching (tab 8 (λ i. pair l (1 + 2 * i)))))
    (cond (eqb code 4) (calling (admission (block_from 8 l (get_or l 6 0) (get_or l 7 0)))) (calling stepping))))

-- the calls from the front on, n at most, as long as whole ones stand there, and the bytes left after them
unfoldable pub calls_to : ℕ → List ℕ → List Coded
calls_to zero l = []
calls_to (suc n) l = let rest = calls_to n (drop (size l) l) in cond (eqb (size l) 0) [] (first l ∷ rest)

unfoldable pub left_after : ℕ → List ℕ → List ℕ
left_after zero l = l
left_after (suc n) l = let rest = left_after n (drop (size l) l) in cond (eqb (size l) 0) l rest

-- a call has at least one byte, so there are no more calls than bytes
unfoldable pub calls_in : List ℕ → List Coded
calls_in l = calls_to (length l) l

-- nothing is left: the bytes are whole calls
unfoldable pub readable : List ℕ → Bool
readable l = eqb (length (left_after (length l) l)) 0

-- a number in two bytes
abbrev pub pair_of : ℕ → List ℕ
pair_of x = x % 256 ∷ x / 256 ∷ []

-- and in three
abbrev pub triple_of : ℕ → List ℕ
triple_of x = x % 256 ∷ x / 256 % 256 ∷ x / 65536 ∷ []

-- every element is a byte
abbrev pub all_bytes : List ℕ → Bool
all_bytes [] = true
all_bytes (x ∷ l) = ltb x 256 && all_bytes l

-- the bytes of the older admission
abbrev pub older_code : List ℕ → List ℕ → List ℕ
older_code R bytes = 1 ∷ (pair_of (length R) ++ triple_of (length bytes) ++ R ++ bytes)

-- the bytes of a call, and whether its numbers fit in them
unfoldable pub code_of : Coded → List ℕ
code_of (making S) = 0 ∷ pair_of S
code_of (calling (admission h)) =
    4 ∷ (pair_of (length h.records) ++ triple_of (length h.rows) ++ (h.period ∷ h.phase ∷ []) ++ h.records ++ h.rows)
code_of (calling (latching ws)) = 2 ∷ joined 8 (λ b. pair_of (get_or ws b 0))
code_of (calling stepping) = 3 ∷ []

unfoldable pub fits : Coded → Bool
fits (making S) = ltb S 65536
fits (calling (admission h)) =
    ltb (length h.records) 65536 && ltb (length h.rows) 16777216 && ltb h.period 256 && ltb h.phase 256
    && all_bytes h.records && all_bytes h.rows
fits (calling (latching ws)) = eqb (length ws) 8 && every 8 (λ b. ltb (get_or ws b 0) 65536)
fits (calling stepping) = true

-- a list of calls, one after another
unfoldable pub codes_of : List Coded → List ℕ
codes_of [] = []
codes_of (c ∷ cs) = code_of c ++ codes_of cs

unfoldable pub all_fit : List Coded → Bool
all_fit [] = true
all_fit (c ∷ cs) = fits c && all_fit cs
