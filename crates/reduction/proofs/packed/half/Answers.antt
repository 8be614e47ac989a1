-- `reduction::packed::half` meets its contract.
-- Assumes nothing.
use mathlib.Core.Path.{◌≡◌, sym, ◌∙◌, ap}
use Prim.Native.Nat.{◌-◌, ◌*◌, ◌/◌, ◌%◌, ◌^◌}
use native.Mathlib.Omega.{arith}
use borrow.Author.Tests.{eq-eqb, ne_eqb}
use lib.Dec.{eqb}
use lib.Bits.{bit_and, and_mask}
use lib.Pow.{shl_exact}
use Rattle.laws.proofs.Cases.{cond_yes, cond_no}
use Rattle.reduction.specs.Packed.{half}
use Rattle.reduction.proofs.packed.half.Goals as goal

pub returns-then-b-eq0 : goal.returns-then-b-eq0
unfolding half
returns-then-b-eq0 c =
    let a = c.args in
    let e : 1 * 2 ^ a.s % 2 ^ 64 ≡ 1 * 2 ^ a.s = shl_exact 1 a.s 64 (omega arith) (omega (arith, c.requires)) in
    let z : 1 * 2 ^ a.s % 2 ^ 64 - 1 ≡ 2 ^ a.s - 1 = omega (arith, e) in
    ap (bit_and a.x) z ∙ and_mask a.x a.s ∙ sym (cond_yes (eqb a.b 0) (a.x % 2 ^ a.s) (a.x / 2 ^ a.s) (eq-eqb a.b 0 c.if-b-eq0.true))

pub returns : goal.returns
unfolding half
returns c = let a = c.args in sym (cond_no (eqb a.b 0) (a.x % 2 ^ a.s) (a.x / 2 ^ a.s) (ne_eqb a.b 0 c.if-b-eq0.false))
