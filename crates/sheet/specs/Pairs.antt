-- Refusal 5 as the code finds it, by pairs of records. That it is refusal 5 is proved.
-- Assumes nothing.
use Rattle.std.specs.Prelude.{ℕ, ◌+◌, ◌*◌, ◌%◌, Bool, not, ◌&&◌, List, eqb, get_or}
use Rattle.std.specs.Int.Bits.{bit_and, bit_or, bit_xor}
use Rattle.laws.specs.Tests.{any}
use Rattle.sheet_spec.specs.Records.{record_count, byte, kind, mask, values}

-- bytes lo and hi of record r as one number, lo lowest
abbrev pub pair_of : List ℕ → ℕ → ℕ → ℕ → ℕ
pair_of s lo hi r = byte s r lo + byte s r hi * 256

-- the outputs that record r forces: to 0 in the low byte and to 1 in the high; and the other way round
abbrev pub force : List ℕ → ℕ → ℕ
force s r = pair_of s 4 5 r

abbrev pub against : List ℕ → ℕ → ℕ
against s r = pair_of s 5 4 r

-- The kind as one more input that every record tests: bit 15 of its mask is set, and bit 15 of its values is the kind. So records of two kinds do not agree
-- on what both test.
abbrev pub kind_mask : List ℕ → ℕ → ℕ
kind_mask s r = bit_or (mask s r) 32768

abbrev pub kind_values : List ℕ → ℕ → ℕ
kind_values s r = bit_or (values s r) (kind s r % 2 * 32768)

-- in lists of the records' masks, values, forces and opposite forces: record q agrees with record r on the inputs that both test, and
-- forces an output the other way
unfoldable pub hit_in : List ℕ → List ℕ → List ℕ → List ℕ → ℕ → ℕ → Bool
hit_in ms vs fs gs r q =
    eqb (bit_and (bit_and (bit_xor (get_or vs q 0) (get_or vs r 0)) (get_or ms q 0)) (get_or ms r 0)) 0 && not (eqb (bit_and (get_or fs q 0) (get_or gs r 0)) 0)

-- the same of the sheet's records, with their kinds
unfoldable pub hit : List ℕ → ℕ → ℕ → Bool
hit s r q =
    eqb (bit_and (bit_and (bit_xor (kind_values s q) (kind_values s r)) (kind_mask s q)) (kind_mask s r)) 0 && not (eqb (bit_and (force s q) (against s r)) 0)

-- some record is hit by one before it
unfoldable pub any_hit : List ℕ → Bool
any_hit s = any (record_count s) (λ r. any r (hit s r))
