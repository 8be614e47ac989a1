-- A bit shifted by at most 12 places stays within the word.
-- Assumes nothing.
use mathlib.Core.Path.{◌≡◌, ◌∙◌}
use Prim.Native.Nat.{ℕ, ◌*◌, ◌%◌, ◌^◌, ◌≤◌}
use native.Mathlib.Nat.{one-mul, mod-eq_of_lt}
use native.Mathlib.Omega.{arith}
use lib.Pow.{pow_mono}

pub shifted : (n size : ℕ) → n ≤ 12 → 65536 ≤ size → 1 * 2 ^ n % size ≡ 2 ^ n
shifted n size few wide = mod-eq_of_lt (omega (arith, pow_mono few)) ∙ one-mul (2 ^ n)
