-- What a line that can't be read should have been, said by how it begins.
-- Assumes nothing.
use Rattle.std.specs.Prelude.{ℕ, zero, suc, ◌+◌, cond, List, [], ◌∷◌, drop}
use Rattle.call_text.specs.Words.{begins}
use Rattle.call_text.specs.Lines.{step_word, latch_word, line_end}

-- "bank", "admit"
abbrev pub bank_name : List ℕ
bank_name = 98 ∷ 97 ∷ 110 ∷ 107 ∷ []

abbrev pub admit_name : List ℕ
admit_name = 97 ∷ 100 ∷ 109 ∷ 105 ∷ 116 ∷ []

-- 1 bank, 2 admit, 3 latch, 4 step, 0 any of them
unfoldable pub wanted : List ℕ → ℕ
wanted l = cond (begins bank_name l) 1 (cond (begins admit_name l) 2 (cond (begins latch_word l) 3 (cond (begins step_word l) 4 0)))

-- what follows the first n lines
unfoldable pub lines_after : ℕ → List ℕ → List ℕ
lines_after zero l = l
lines_after (suc n) l = let rest = lines_after n l in drop (line_end rest + 1) rest

-- of the line after the first n
unfoldable pub wanted_after : ℕ → List ℕ → ℕ
wanted_after n l = wanted (lines_after n l)
