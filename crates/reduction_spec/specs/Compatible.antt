-- Compatible columns (document 01, "Columns and merging").
-- Assumes nothing.
use Rattle.std.specs.Prelude.{ℕ, ◌^◌, Bool, not, ◌&&◌, ◌||◌, List, eqb}
use Rattle.laws.specs.Tests.{every}
use Rattle.reduction_spec.specs.Columns.{entry}

-- 0 in one and 1 in the other
abbrev pub opposite : ℕ → ℕ → Bool
opposite x y = eqb x 0 && eqb y 1 || eqb x 1 && eqb y 0

-- two columns are compatible if no place holds 0 in one and 1 in the other: on one line; on each of the b lines
unfoldable pub compatible_line : ℕ → ℕ → List ℕ → ℕ → ℕ → ℕ → Bool
compatible_line n a f p q k = every (2 ^ a) (λ x. not (opposite (entry n a f p k x) (entry n a f q k x)))

unfoldable pub compatible : ℕ → ℕ → ℕ → List ℕ → ℕ → ℕ → Bool
compatible n a b f p q = every b (compatible_line n a f p q)
