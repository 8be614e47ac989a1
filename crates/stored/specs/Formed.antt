-- What the test of a stored cascade computes on its way.
-- Assumes nothing.
use Rattle.std.specs.Prelude.{ℕ, ◌+◌, ◌/◌, ◌%◌, Bool, cond, ◌&&◌, ◌||◌, List, eqb, leb, length, Option, Some, None}
use Rattle.laws.specs.Bits.{marks}
use Rattle.laws.specs.Tests.{within}
use Rattle.stored_spec.specs.RowBytes.{row_value}
use Rattle.stored_spec.specs.StoredForm.{row_count, records_formed_as}

-- an input or an output; the bytes after a variable
unfoldable pub is_named : ℕ → Bool
is_named v = leb v 11 || within 128 135 v

unfoldable pub cut_formed : ℕ → ℕ → ℕ → Bool
cut_formed cut rail last = leb cut 1 && (eqb cut 1 || eqb rail 0) && eqb last 0

-- the place of a variable's bit in a word of 64
abbrev pub place_of : ℕ → ℕ
place_of v = (v + v / 8) % 64

-- the bits that some row of z bytes has
abbrev pub bits_of : ℕ → List ℕ → ℕ
bits_of z bytes = marks 0 (row_value z bytes) (length bytes / z)

-- the rows of well formed records, of z bytes each
unfoldable pub rows_wanted : ℕ → List ℕ → Option ℕ
rows_wanted z R = cond (records_formed_as z R) (Some (row_count R)) None
