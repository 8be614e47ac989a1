-- Keys of packed columns: a number computed from a column's words, by which most columns are told apart.
-- Assumes nothing.
use Rattle.std.specs.Prelude.{ℕ, zero, suc, ◌+◌, ◌*◌, ◌/◌, ◌%◌, ◌^◌, ◌<◌, ◌≤◌, Bool, ◌&&◌, List, eqb, get_or}
use Rattle.std.specs.Int.Bits.{bit_or, bit_xor}
use Rattle.reduction.specs.Distinct.{same_words}

-- the words z and y of the two planes stirred into k, which is turned by five bits
unfoldable pub stirred : ℕ → ℕ → ℕ → ℕ
stirred k z y = bit_xor (bit_xor (bit_or (k * 2 ^ 5 % 2 ^ 64) (k / 2 ^ 59)) z) (y * 2 ^ 1 % 2 ^ 64)

-- the same for i words from place p on
unfoldable pub stirred_to : List ℕ → List ℕ → ℕ → ℕ → ℕ
stirred_to zs os p zero = 0
stirred_to zs os p (suc i) = stirred (stirred_to zs os p i) (get_or zs (p + i) 0) (get_or os (p + i) 0)

-- 32 bits of it
unfoldable pub folded : ℕ → ℕ
folded k = bit_xor (bit_xor k (k / 2 ^ 29)) (k / 2 ^ 47) % 2 ^ 32

-- the key of the packed column q
unfoldable pub key_of : List ℕ → List ℕ → ℕ → ℕ → ℕ
key_of zs os size q = folded (stirred_to zs os (q * size) size)

-- column q, with the key k, is the packed column that ps names at c, of which ks gives the key
unfoldable pub is_kept : List ℕ → List ℕ → ℕ → List ℕ → List ℕ → ℕ → ℕ → ℕ → Bool
is_kept zs os size ks ps q k c = eqb (get_or ks c 0) k && same_words zs os size q (get_or ps c 0)

-- the first n of the packed columns that ps names lie within 1,024 words
abbrev pub Inside : ℕ → ℕ → List ℕ → Type 0
Inside n size ps = (c : ℕ) → c < n → get_or ps c 0 * size + size ≤ 1024
