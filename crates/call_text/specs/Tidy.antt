-- Blanks in a text tidied: between the words of a line one space stands, and none at its ends. A blank is a space, a tab or a carriage return, so a
-- text whose lines end with CR LF is tidied to one whose lines end with LF.
-- Assumes nothing.
use Rattle.std.specs.Prelude.{ℕ, Bool, not, cond, ◌&&◌, ◌||◌, List, [], ◌∷◌, ◌++◌, eqb, ltb, length}
use Rattle.laws.specs.Lists.{written}

unfoldable pub is_blank : ℕ → Bool
is_blank c = eqb c 32 || eqb c 9 || eqb c 13

-- where in its line the byte after c stands: 0 before the first word, 1 in a word, 2 in blanks after a word. s is where c stands
unfoldable pub place_after : ℕ → ℕ → ℕ
place_after s c = cond (is_blank c) (cond (eqb s 0) 0 2) (cond (eqb c 10) 0 1)

-- what becomes of the byte c: a blank is left out, and a word after the first gets its space
unfoldable pub tidied_byte : ℕ → ℕ → List ℕ
tidied_byte s c = cond (is_blank c) [] (cond (eqb s 2 && not (eqb c 10)) (32 ∷ c ∷ []) (c ∷ []))

unfoldable pub tidied_from : ℕ → List ℕ → List ℕ
tidied_from s [] = []
tidied_from s (c ∷ l) = tidied_byte s c ++ tidied_from (place_after s c) l

unfoldable pub tidied : List ℕ → List ℕ
tidied l = tidied_from 0 l

-- the tidied text at the front of a memory, and its length; 11 where the memory is shorter than the text, and then nothing changes
pub record Tidied : Type 0 where
  pub refusal : ℕ
  pub size : ℕ
  pub text : List ℕ

unfoldable pub tidy_text : List ℕ → List ℕ → Tidied
tidy_text l old =
    cond (ltb (length old) (length l)) (record { refusal = 11; size = 0; text = old })
    (record { refusal = 0; size = length (tidied l); text = written old 0 (tidied l) })
