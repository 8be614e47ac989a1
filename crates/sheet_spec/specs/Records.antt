-- The records of a sheet (document 01, "The sheet"; their kinds by document 02, §3). A sheet is the list of its bytes; w is an input word, o an output, i an input.
-- Assumes nothing.
use Rattle.std.specs.Prelude.{ℕ, ◌+◌, ◌*◌, ◌/◌, Bool, List, eqb, length, get_or}
use Rattle.std.specs.Int.Bits.{bit_and}
use Rattle.laws.specs.Bits.{has}

-- records of 8 bytes, no header: their number, and byte k of record r
abbrev pub record_count : List ℕ → ℕ
record_count s = length s / 8

abbrev pub byte : List ℕ → ℕ → ℕ → ℕ
byte s r k = get_or s (r * 8 + k) 0

-- bytes 0 and 1: mask of tested inputs; two-byte fields have the low byte first
abbrev pub mask : List ℕ → ℕ → ℕ
mask s r = byte s r 0 + byte s r 1 * 256

-- bytes 2 and 3: their values
abbrev pub values : List ℕ → ℕ → ℕ
values s r = byte s r 2 + byte s r 3 * 256

-- byte 4: outputs forced to 0; byte 5: outputs forced to 1
abbrev pub zeros : List ℕ → ℕ → ℕ
zeros s r = byte s r 4

abbrev pub ones : List ℕ → ℕ → ℕ
ones s r = byte s r 5

-- byte 6: 1 for a stop record, 0 for an ordinary one
abbrev pub kind : List ℕ → ℕ → ℕ
kind s r = byte s r 6

abbrev pub ordinary : ℕ
ordinary = 0

abbrev pub stop : ℕ
stop = 1

-- a record matches an input word that equals its values on its mask
unfoldable pub matches : List ℕ → ℕ → ℕ → Bool
matches s r w = eqb (bit_and w (mask s r)) (bit_and (values s r) (mask s r))

-- bit i, counted from the lowest, is input i or output i
unfoldable pub forces0 : List ℕ → ℕ → ℕ → Bool
forces0 s r o = has (zeros s r) o

unfoldable pub forces1 : List ℕ → ℕ → ℕ → Bool
forces1 s r o = has (ones s r) o
