-- Numbers and bytes written as text: a text is its bytes, in ASCII.
-- Assumes nothing.
use Rattle.std.specs.Prelude.{ℕ, zero, suc, ◌+◌, ◌-◌, ◌*◌, ◌/◌, ◌%◌, Bool, cond, ◌&&◌, ◌||◌, List, eqb, ltb, length, get_or}
use Rattle.laws.specs.Tests.{every, within}
use Rattle.laws.specs.Lists.{tab}

-- the text begins with the bytes of the word
unfoldable pub begins : List ℕ → List ℕ → Bool
begins word l = every (length word) (λ i. eqb (get_or l i 0) (get_or word i 0))

-- a word whose bytes are not 0
abbrev pub without_zeros : List ℕ → Bool
without_zeros word = every (length word) (λ i. ltb 0 (get_or word i 0))

-- a digit 0 to 9, and the number that the first n digits are
unfoldable pub is_digit : List ℕ → ℕ → Bool
is_digit l i = within 48 57 (get_or l i 0)

unfoldable pub decimal_to : List ℕ → ℕ → ℕ
decimal_to l zero = 0
decimal_to l (suc n) = 10 * decimal_to l n + (get_or l n 0 - 48)

abbrev pub decimal : List ℕ → ℕ
decimal l = decimal_to l (length l)

-- one to five digits
unfoldable pub is_number : List ℕ → Bool
is_number l = within 1 5 (length l) && every (length l) (is_digit l)

-- the value of a digit in base 16, 0 to 9, a to f or A to F; 16 where the byte is none
unfoldable pub hex_digit : ℕ → ℕ
hex_digit c = cond (within 48 57 c) (c - 48) (cond (within 97 102 c) (c - 87) (cond (within 65 70 c) (c - 55) 16))

unfoldable pub is_hex : List ℕ → ℕ → Bool
is_hex l i = ltb (hex_digit (get_or l i 0)) 16

-- the byte whose two digits stand at place i
unfoldable pub hex_byte : List ℕ → ℕ → ℕ
hex_byte l i = 16 * hex_digit (get_or l i 0) + hex_digit (get_or l (i + 1) 0)

-- the number that the first n digits in base 16 are
unfoldable pub hex_to : List ℕ → ℕ → ℕ
hex_to l zero = 0
hex_to l (suc n) = 16 * hex_to l n + hex_digit (get_or l n 0)

abbrev pub hex_word : List ℕ → ℕ
hex_word l = hex_to l (length l)

-- one to four digits in base 16
unfoldable pub is_hex_word : List ℕ → Bool
is_hex_word l = within 1 4 (length l) && every (length l) (is_hex l)

-- two digits a byte, at most 65,535 bytes; or - for no bytes
unfoldable pub is_bytes : List ℕ → Bool
is_bytes l =
    eqb (length l) 1 && eqb (get_or l 0 0) 45
    || within 1 131071 (length l) && eqb (length l % 2) 0 && every (length l) (is_hex l)

unfoldable pub bytes_of : List ℕ → List ℕ
bytes_of l = tab (length l / 2) (λ i. hex_byte l (2 * i))
