-- A list of calls as text, one call a line:
--   bank S                        makes a bank with S, one to five digits, at most 65,535
--   admit RECORDS ROWS            admits a block; its bytes in base 16, two digits each, - for none
--   admit RECORDS ROWS PERIOD PHASE  the same with a period and a phase, one to three digits each, at most 255
--   latch W0 W1 W2 W3 W4 W5 W6 W7 latches eight words, each four digits in base 16
--   step                          steps
-- Words are parted by one space. Empty lines and lines that begin with # are passed over. The lines stand after one that says how many bytes of
-- row memory are lent: memory N, at most 65,536.
-- Assumes nothing.
use Rattle.std.specs.Prelude.{ℕ, zero, suc, ◌+◌, ◌*◌, ◌/◌, ◌%◌, Bool, true, false, cond, ◌&&◌, ◌||◌, List, [], ◌∷◌, ◌++◌, eqb, leb, ltb, length, get_or, take, drop}
use Rattle.laws.specs.Tests.{every, least}
use Rattle.laws.specs.Lists.{tab, written}
use Rattle.call_text.specs.Words.{begins, decimal, is_number, is_hex, hex_byte, is_bytes, bytes_of}

-- a line: whether it can be read, and the bytes of its call
pub record Line : Type 0 where
  pub good : Bool
  pub code : List ℕ

abbrev pub line_of : Bool → List ℕ → Line
line_of good code = record { good = good; code = cond good code [] }

-- a number in two bytes, the low byte first
abbrev pub low : ℕ → ℕ
low x = x % 256

abbrev pub high : ℕ → ℕ
high x = x / 256

unfoldable pub bank_line : List ℕ → Line
bank_line l = line_of (is_number l && leb (decimal l) 65535) (0 ∷ low (decimal l) ∷ high (decimal l) ∷ [])

-- the place of the digits of byte i of eight words, each a space and four digits; the low byte of a word comes first
unfoldable pub word_place : ℕ → ℕ
word_place i = 5 * (i / 2) + cond (eqb (i % 2) 0) 3 1

unfoldable pub is_word_byte : List ℕ → ℕ → Bool
is_word_byte l i = is_hex l (word_place i) && is_hex l (word_place i + 1)

unfoldable pub latch_line : List ℕ → Line
latch_line l =
    line_of (eqb (length l) 40 && every 8 (λ b. eqb (get_or l (5 * b) 0) 32) && every 16 (is_word_byte l))
    (2 ∷ tab 16 (λ i. hex_byte l (word_place i)))

-- the first space, the length where there is none
unfoldable pub space_in : List ℕ → ℕ
space_in l = least (length l) (λ i. eqb (get_or l i 0) 32)

-- Q's number has three bytes; texts of bytes are so short that the third is 0
abbrev pub admission : List ℕ → List ℕ → List ℕ
admission R Q = 1 ∷ low (length R) ∷ high (length R) ∷ low (length Q) ∷ high (length Q) ∷ 0 ∷ (R ++ Q)

-- the older line, without period and phase
unfoldable pub older_line : List ℕ → Line
older_line l =
    let p = space_in l in
    let R = bytes_of (take p l) in
    let Q = bytes_of (drop (p + 1) l) in
    line_of (is_bytes (take p l) && is_bytes (drop (p + 1) l)) (admission R Q)

-- an admission with a period and a phase, which have a byte each
abbrev pub timed_admission : List ℕ → List ℕ → ℕ → ℕ → List ℕ
timed_admission R Q period phase =
    4 ∷ low (length R) ∷ high (length R) ∷ low (length Q) ∷ high (length Q) ∷ 0 ∷ period ∷ phase ∷ (R ++ Q)

-- one to three digits, at most 255
unfoldable pub is_byte_number : List ℕ → Bool
is_byte_number l = is_number l && leb (length l) 3 && leb (decimal l) 255

unfoldable pub timed_line : List ℕ → Line
timed_line l =
    let p = space_in l in
    let rest = drop (p + 1) l in
    let q = space_in rest in
    let times = drop (q + 1) rest in
    let r = space_in times in
    let period = take r times in
    let phase = drop (r + 1) times in
    line_of (is_bytes (take p l) && is_bytes (take q rest) && is_byte_number period && is_byte_number phase)
    (timed_admission (bytes_of (take p l)) (bytes_of (take q rest)) (decimal period) (decimal phase))

unfoldable pub admit_line : List ℕ → Line
admit_line l = let older = older_line l in cond older.good older (timed_line l)

-- "step", "bank ", "latch", "admit ", "memory "
abbrev pub step_word : List ℕ
step_word = 115 ∷ 116 ∷ 101 ∷ 112 ∷ []

abbrev pub bank_word : List ℕ
bank_word = 98 ∷ 97 ∷ 110 ∷ 107 ∷ 32 ∷ []

abbrev pub latch_word : List ℕ
latch_word = 108 ∷ 97 ∷ 116 ∷ 99 ∷ 104 ∷ []

abbrev pub admit_word : List ℕ
admit_word = 97 ∷ 100 ∷ 109 ∷ 105 ∷ 116 ∷ 32 ∷ []

abbrev pub memory_word : List ℕ
memory_word = 109 ∷ 101 ∷ 109 ∷ 111 ∷ 114 ∷ 121 ∷ 32 ∷ []

unfoldable pub line_in : List ℕ → Line
line_in l =
    cond (eqb (length l) 0 || eqb (get_or l 0 0) 35) (line_of true [])
    (cond (eqb (length l) 4 && begins step_word l) (line_of true (3 ∷ []))
    (cond (begins bank_word l) (bank_line (drop 5 l))
    (cond (begins latch_word l) (latch_line (drop 5 l))
    (cond (begins admit_word l) (admit_line (drop 6 l)) (line_of false [])))))

-- up to the first line feed, or the end
unfoldable pub line_end : List ℕ → ℕ
line_end l = least (length l) (λ i. eqb (get_or l i 0) 10)

-- the calls of the lines up to the first that can't be read, and its number; 0 where there is none
pub record Text : Type 0 where
  pub code : List ℕ
  pub bad_line : ℕ

abbrev pub text_of : Line → ℕ → Text → Text
text_of l k rest = cond l.good (record { code = l.code ++ rest.code; bad_line = rest.bad_line }) (record { code = []; bad_line = k })

-- at most n lines, numbered from k on
unfoldable pub lines_to : ℕ → ℕ → List ℕ → Text
lines_to zero k l = record { code = []; bad_line = 0 }
lines_to (suc n) k l =
    let rest = lines_to n (k + 1) (drop (line_end l + 1) l) in
    cond (eqb (length l) 0) (record { code = []; bad_line = 0 }) (text_of (line_in (take (line_end l) l)) k rest)

-- there are no more lines than bytes
unfoldable pub lines_in : ℕ → List ℕ → Text
lines_in k l = lines_to (length l) k l

-- the bytes of row memory that the first line says; 65,537 where it says none
unfoldable pub memory_in : List ℕ → ℕ
memory_in l =
    let first = take (line_end l) l in
    let n = drop 7 first in
    cond (begins memory_word first && is_number n && leb (decimal n) 65536) (decimal n) 65537

-- what reading a text gives: 11 where the memory for the calls is shorter than the text, and then nothing changes; else the calls from its front
-- on, their number of bytes, and the number of the line that can't be read
pub record Read : Type 0 where
  pub refusal : ℕ
  pub size : ℕ
  pub bad_line : ℕ
  pub code : List ℕ

unfoldable pub read_text : List ℕ → ℕ → List ℕ → Read
read_text l k old =
    let t = lines_in k l in
    cond (ltb (length old) (length l)) (record { refusal = 11; size = 0; bad_line = 0; code = old })
    (record { refusal = 0; size = length t.code; bad_line = t.bad_line; code = written old 0 t.code })
