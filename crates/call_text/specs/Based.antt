-- The number that a text is in a base: its digits are 0 to 9, then a to z or A to Z.
-- Assumes nothing.
use Rattle.std.specs.Prelude.{ℕ, zero, suc, ◌+◌, ◌*◌, Bool, cond, ◌&&◌, List, Option, Some, None, ltb, length, get_or}
use Rattle.std.specs.Char.{digit_value}
use Rattle.laws.specs.Tests.{every, within}

-- the number that the first n digits are
unfoldable pub based_to : ℕ → List ℕ → ℕ → ℕ
based_to base l zero = 0
based_to base l (suc n) = base * based_to base l n + digit_value (get_or l n 0)

-- the byte at place i is a digit
abbrev pub is_based : ℕ → List ℕ → ℕ → Bool
is_based base l i = ltb (digit_value (get_or l i 0)) base

-- one to so many digits
abbrev pub are_based : ℕ → ℕ → List ℕ → Bool
are_based base most l = within 1 most (length l) && every (length l) (is_based base l)

unfoldable pub number_in : ℕ → ℕ → List ℕ → Option ℕ
number_in base most l = cond (are_based base most l) (Some (based_to base l (length l))) None
