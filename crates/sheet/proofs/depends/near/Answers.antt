-- `sheet::depends::near` meets its contract.
-- Assumes nothing.
use mathlib.Core.Path.{◌≡◌, ◌∙◌}
use mathlib.Core.Bool.{cond}
use Prim.Native.Nat.{◌%◌, ◌+◌, ◌-◌, ◌*◌, ◌^◌}
use native.Mathlib.Nat.{mod-eq_of_lt}
use native.Mathlib.Omega.{arith}
use lib.Dec.{eqb}
use lib.Bits.{bit_and}
use lib.Pow.{pow_mono}
use Rattle.sheet.proofs.Shifts.{shifted}
use Rattle.sheet.specs.Depends.{apart_at}
use Rattle.sheet.proofs.depends.TurnedPlaces.{marks-first, near_step}
use Rattle.sheet.proofs.depends.near.Goals as goal

pub overflow_sub-end : goal.overflow_sub-end
overflow_sub-end c =
    let a = c.args in
    let p = c.requires in
    omega (arith, pow_mono {i = a.q} {j = a.k} (omega (arith, p.1)), shifted a.k 18446744073709551616 (omega (arith, p.0)) (omega arith), shifted a.q 18446744073709551616 (omega (arith, p.0, p.1)) (omega arith))

pub loop-i-init : goal.loop-i-init
loop-i-init c =
    let a = c.args in
    marks-first a.d (λ k. cond (eqb (bit_and k (2 ^ a.q)) 0) (apart_at a.planes.now.zeros a.planes.now.ones (a.base + k) (a.base + k + 2 ^ a.q)) 0)

pub loop-i-preserved : goal.loop-i-preserved
loop-i-preserved c =
    let l = c.loop-i in
    let a = c.args in
    let p = c.requires in
    let half = pow_mono {i = a.q} {j = 7} (omega (arith, p.0, p.1)) in
    let whole = pow_mono {i = a.k} {j = 8} p.0 in
    let step = shifted a.q 18446744073709551616 (omega (arith, p.0, p.1)) (omega arith) in
    let size = shifted a.k 18446744073709551616 (omega (arith, p.0)) (omega arith) in
    let flag : 1 * 2 ^ a.q % 18446744073709551616 % 256 ≡ 2 ^ a.q = mod-eq_of_lt (omega (arith, step, half)) ∙ step in
    near_step a.planes.now.zeros a.planes.now.ones a.d a.base l.i l.found _ a.low.now.numbers a.low.now.up (omega (arith, size)) a.q _ _ _ step flag l.invariant c.apart-apart.ensures c.added_at-found.ensures

pub returns : goal.returns
returns c =
    let l = c.loop-i in
    let a = c.args in
    let p = c.requires in
    let e : l.i ≡ 2 ^ a.k - 2 ^ a.q = omega (arith, shifted a.k 18446744073709551616 (omega (arith, p.0)) (omega arith), shifted a.q 18446744073709551616 (omega (arith, p.0, p.1)) (omega arith)) in
    rw e at l.invariant
