-- Single bits of numbers, and tests as numbers.
-- Assumes nothing.
use Rattle.std.specs.Prelude.{ℕ, ◌/◌, ◌%◌, ◌^◌, zero, suc, Bool, cond, eqb}
use Rattle.std.specs.Int.Bits.{bit_or}

-- bit i of w, counted from the lowest
abbrev pub bit : ℕ → ℕ → ℕ
bit w i = w / 2 ^ i % 2

-- bit i of w is 1
abbrev pub has : ℕ → ℕ → Bool
has w i = eqb (bit w i) 1

-- 1 where the test holds, else 0
abbrev pub flag : Bool → ℕ
flag b = cond b 1 0

-- what the first r records add, over what was there
unfoldable pub marks : ℕ → (ℕ → ℕ) → ℕ → ℕ
marks old g zero = old
marks old g (suc r) = bit_or (marks old g r) (g r)
