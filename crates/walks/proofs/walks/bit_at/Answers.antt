-- `walks::walks::bit_at` meets its contract.
-- Assumes nothing.
use mathlib.Core.Path.{sym, ◌∙◌, ap}
use Prim.Native.Nat.{ℕ}
use native.Mathlib.Omega.{arith}
use borrow.Author.Tests.{le-ltb}
use lib.Dec.{eqb}
use Rattle.laws.proofs.Bits.{bit_past}
use Rattle.walks.proofs.walks.bit_at.Goals as goal

pub returns-else-h-lt32 : goal.returns-else-h-lt32
returns-else-h-lt32 c =
    let a = c.args in
    le-ltb a.h 32 (omega (arith, c.if-h-lt32.false)) ∙ sym (ap (λ (x : ℕ). eqb x 1) (bit_past a.bits 32 a.h c.ranges.bits.fits (omega arith)))
