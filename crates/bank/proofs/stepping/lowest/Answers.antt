-- `bank::stepping::lowest` meets its contract.
-- Assumes nothing.
use mathlib.Core.Path.{◌≡◌, ap, ap₂}
use Prim.Native.Nat.{ℕ, ◌*◌, ◌%◌, ◌^◌, ◌≤◌}
use native.Mathlib.Nat.{mod-lt}
use native.Mathlib.Omega.{arith}
use lib.Pow.{pow_mono, pow_pos}
use Rattle.bank.proofs.stepping.lowest.Goals as goal

pub nonzero_rem-result : goal.nonzero_rem-result
nonzero_rem-result c =
    let h : 2 ^ c.args.bits ≤ 65536 = pow_mono c.requires in
    let p = pow_pos c.args.bits in
    omega arith

pub overflow_cast-result-2 : goal.overflow_cast-result-2
overflow_cast-result-2 c =
    let h : 2 ^ c.args.bits ≤ 65536 = pow_mono c.requires in
    let p = pow_pos c.args.bits in
    let e : 1 * 2 ^ c.args.bits % 2 ^ 32 ≡ 2 ^ c.args.bits = omega arith in
    let m = mod-lt c.from.result p in
    record { fits = omega (arith, ap (λ (k : ℕ). c.from.result % k) e) }

pub returns : goal.returns
returns c =
    let h : 2 ^ c.args.bits ≤ 65536 = pow_mono c.requires in
    let e : 1 * 2 ^ c.args.bits % 2 ^ 32 ≡ 2 ^ c.args.bits = omega arith in
    ap₂ (λ (y m : ℕ). y % m) c.from.ensures e
