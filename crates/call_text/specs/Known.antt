-- The line that says which inputs are known (document 02, §5): known=HEX word=HEX, each number one to four digits in base 16, one space between.
-- Assumes nothing.
use Rattle.std.specs.Prelude.{ℕ, ◌+◌, Bool, true, false, cond, ◌&&◌, List, [], ◌∷◌, length, take, drop}
use Rattle.call_text.specs.Words.{begins, hex_word, is_hex_word}
use Rattle.call_text.specs.Lines.{space_in, line_end}

-- what such a line says: whether it can be read, the mask and the values; 0 where it can't
pub record KnownRead : Type 0 where
  pub good : Bool
  pub known : ℕ
  pub word : ℕ

-- "known=", "word="
abbrev pub known_name : List ℕ
known_name = 107 ∷ 110 ∷ 111 ∷ 119 ∷ 110 ∷ 61 ∷ []

abbrev pub word_name : List ℕ
word_name = 119 ∷ 111 ∷ 114 ∷ 100 ∷ 61 ∷ []

-- the text is the name and a number, and that number
unfoldable pub says : List ℕ → List ℕ → Bool
says name l = begins name l && is_hex_word (drop (length name) l)

unfoldable pub said : List ℕ → List ℕ → ℕ
said name l = hex_word (drop (length name) l)

-- two texts that say the mask and the values
unfoldable pub known_words : List ℕ → List ℕ → KnownRead
known_words first second =
    cond (says known_name first && says word_name second)
    (record { good = true; known = said known_name first; word = said word_name second })
    (record { good = false; known = 0; word = 0 })

-- those before and after the first space
unfoldable pub known_line : List ℕ → KnownRead
known_line l = known_words (take (space_in l) l) (drop (space_in l + 1) l)

-- of the first line of a text
unfoldable pub read_known : List ℕ → KnownRead
read_known l = known_line (take (line_end l) l)
