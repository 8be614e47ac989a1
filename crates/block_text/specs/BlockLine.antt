-- The line of a list of calls that admits a block: admit RECORDS ROWS, its bytes in base 16, two digits each, - for none.
-- Assumes nothing.
use Rattle.std.specs.Prelude.{ℕ, ◌+◌, ◌*◌, ◌/◌, ◌%◌, ◌≤◌, ◌≡◌, cond, ◌||◌, List, [], ◌∷◌, ◌++◌, eqb, ltb, length, get_or}
use Rattle.laws.specs.Lists.{tab, written}
use Rattle.call_text.specs.Lines.{admission, admit_word, read_text}

-- a digit in base 16, in small letters
unfoldable pub hex_sign : ℕ → ℕ
hex_sign d = cond (ltb d 10) (48 + d) (87 + d)

-- digit i of the bytes, the high one of a byte first, and its sign
unfoldable pub digit_at : List ℕ → ℕ → ℕ
digit_at R i = cond (eqb (i % 2) 0) (get_or R (i / 2) 0 / 16) (get_or R (i / 2) 0 % 16)

unfoldable pub sign_at : List ℕ → ℕ → ℕ
sign_at R i = hex_sign (digit_at R i)

-- two digits a byte, - for no bytes
unfoldable pub bytes_text : List ℕ → List ℕ
bytes_text R = cond (eqb (length R) 0) (45 ∷ []) (tab (2 * length R) (sign_at R))

-- "admit ", the records, a space, the rows, a line feed
unfoldable pub block_line : List ℕ → List ℕ → List ℕ
block_line R Q = admit_word ++ (bytes_text R ++ (32 ∷ (bytes_text Q ++ (10 ∷ []))))

-- 12: records or rows of over 65,535 bytes, which a text of bytes can't have. 11: the memory is shorter than the line. Then nothing changes; else the
-- line stands at its front, and its length is said
pub record WrittenLine : Type 0 where
  pub refusal : ℕ
  pub size : ℕ
  pub text : List ℕ

unfoldable pub write_line : List ℕ → List ℕ → List ℕ → WrittenLine
write_line R Q old =
    cond (ltb 65535 (length R) || ltb 65535 (length Q)) (record { refusal = 12; size = 0; text = old })
    (cond (ltb (length old) (length (block_line R Q))) (record { refusal = 11; size = 0; text = old })
    (record { refusal = 0; size = length (block_line R Q); text = written old 0 (block_line R Q) }))

-- the text read back, whatever the number of its first line, into any memory that is long enough, is exactly the call that admits R and Q
abbrev pub ReadsBack : List ℕ → List ℕ → List ℕ → Type 0
ReadsBack l R Q =
    (k : ℕ) (code : List ℕ) → length l ≤ length code
    → read_text l k code ≡ record { refusal = 0; size = 6 + length R + length Q; bad_line = 0; code = written code 0 (admission R Q) }
