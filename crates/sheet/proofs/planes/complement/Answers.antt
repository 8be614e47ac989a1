-- `sheet::planes::complement` meets its contract.
-- Assumes nothing.
use mathlib.Core.Path.{◌≡◌, sym, ap}
use Prim.Native.Nat.{ℕ}
use native.Mathlib.Omega.{arith}
use lib.Bits.{bit_xor}
use lib.ListN.{get_or}
use Rattle.laws.proofs.Puts.{puts_none, puts-next, get_or-next}
use Rattle.sheet.specs.Planes.{complemented}
use Rattle.sheet.proofs.planes.complement.Goals as goal

pub loop-x-init : goal.loop-x-init
loop-x-init c = sym (puts_none (λ k. bit_xor (get_or c.args.plane.now k 0) 255) c.args.plane.now)

pub loop-x-preserved : goal.loop-x-preserved
loop-x-preserved c =
    let l = c.loop-x in
    let p = c.args.plane.now in
    let f : ℕ → ℕ = λ k. bit_xor (get_or p k 0) 255 in
    puts-next f l.x p l.plane _ l.invariant (ap (λ (v : ℕ). bit_xor v 255) (get_or-next f l.x p l.plane 0 l.invariant))

pub returns : goal.returns
unfolding complemented
returns c =
    let l = c.loop-x in
    let e : l.x ≡ 4096 = omega arith in
    rw e at l.invariant
