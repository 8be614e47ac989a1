-- Steps made one after another.
-- Assumes nothing.
use Rattle.std.specs.Prelude.{ℕ, zero, suc}

-- what F 0, then F 1, .., then F (n - 1) make of s
abbrev pub in_turn : {A : Type 0} → ℕ → (ℕ → A → A) → A → A
in_turn zero F s = s
in_turn (suc n) F s = F n (in_turn n F s)
