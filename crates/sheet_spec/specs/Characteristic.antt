-- The characteristic function of an incompletely specified multiple-output function (document 000, definition 2.3).
-- Assumes nothing.
use Rattle.std.specs.Prelude.{ℕ, Bool, not, ◌&&◌, ◌||◌, List, eqb}
use Rattle.laws.specs.Tests.{every}
use Rattle.laws.specs.Bits.{has}
use Rattle.sheet_spec.specs.Values.{value, free}

-- not y and f is 0, or y and f is 1, or f is d: y is the output's bit, f its value
unfoldable pub meets : Bool → ℕ → Bool
meets y f = not y && eqb f 0 || y && eqb f 1 || eqb f free

-- the conjunction over the m outputs, for the input word w and the outputs' bits in y
unfoldable pub chi : ℕ → List ℕ → ℕ → ℕ → Bool
chi m s w y = every m (λ i. meets (has y i) (value s w i))
