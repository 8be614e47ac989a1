-- The first words of packed columns, spread byte by byte, and rows of flags that are narrowed by them.
-- Assumes nothing.
use Rattle.std.specs.Prelude.{◌≡◌, ℕ, ◌+◌, ◌*◌, ◌/◌, ◌%◌, ◌^◌, ◌<◌, Bool, not, ◌&&◌, List, eqb, length, get_or}
use Rattle.std.specs.Int.Bits.{bit_and, bit_or}
use Rattle.laws.specs.Tests.{every}
use Rattle.laws.specs.Bits.{flag}
use Rattle.reduction.specs.Distinct.{agree_words}

-- byte x of a word
unfoldable pub byte_of : ℕ → ℕ → ℕ
byte_of word x = word / 2 ^ (x * 8) % 2 ^ 8

-- the first word of column c, of which ps gives the packed column; its byte x
unfoldable pub first_word : List ℕ → ℕ → List ℕ → ℕ → ℕ
first_word words size ps c = get_or words (get_or ps c 0 * size) 0

unfoldable pub byte_at : List ℕ → ℕ → List ℕ → ℕ → ℕ → ℕ
byte_at words size ps x c = byte_of (first_word words size ps c) x

-- the first words of w columns have 64 bits
abbrev pub Short : ℕ → List ℕ → ℕ → List ℕ → Type 0
Short w words size ps = (c : ℕ) → c < w → first_word words size ps c < 2 ^ 64

-- bytes holds the first n bytes of the first words of w columns, byte x of column c at x * 512 + c
pub record Spread (w : ℕ) (words : List ℕ) (size : ℕ) (ps : List ℕ) (n : ℕ) (bytes : List ℕ) : Type 0 where
  pub full : length bytes ≡ 4096
  pub byte : (x c : ℕ) → x < n → c < w → get_or bytes (x * 512 + c) 0 ≡ byte_at words size ps x c
  pub short : (x c : ℕ) → x < n → c < w → first_word words size ps c < 2 ^ 64

-- a row of 512 holds the flags of the test p for w columns
pub record Flags (w : ℕ) (p : ℕ → Bool) (row : List ℕ) : Type 0 where
  pub full : length row ≡ 512
  pub flags : (d : ℕ) → d < w → get_or row d 0 ≡ flag (p d)

-- column d is another than c; and the first n bytes of the two agree, of which zs and os hold the planes
abbrev pub other : ℕ → ℕ → Bool
other c d = not (eqb c d)

unfoldable pub byte_agree : List ℕ → List ℕ → ℕ → ℕ → ℕ → Bool
byte_agree zs os c d x =
    eqb
    (bit_or (bit_and (get_or zs (x * 512 + c) 0) (get_or os (x * 512 + d) 0)) (bit_and (get_or os (x * 512 + c) 0) (get_or zs (x * 512 + d) 0)))
    0

unfoldable pub agree_to : List ℕ → List ℕ → ℕ → ℕ → ℕ → Bool
agree_to zs os c n d = other c d && every n (byte_agree zs os c d)

-- the flag at d of a row when it is narrowed by the bytes z and y, of which zs and os hold the others from place p on
unfoldable pub narrowed : ℕ → ℕ → ℕ → List ℕ → List ℕ → List ℕ → ℕ → ℕ
narrowed z y p zs os row d = bit_and (get_or row d 0) (flag (eqb (bit_or (bit_and z (get_or os (p + d) 0)) (bit_and y (get_or zs (p + d) 0))) 0))

-- the flag f where the packed columns p and q agree
unfoldable pub confirmed : List ℕ → List ℕ → ℕ → ℕ → ℕ → ℕ → ℕ
confirmed zs os size f p q = flag (not (eqb f 0) && agree_words zs os size p q)
