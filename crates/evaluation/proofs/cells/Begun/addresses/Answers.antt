-- `evaluation::cells::Begun::addresses` meets its contract.
-- Assumes nothing.
use mathlib.Core.Path.{◌≡◌, refl}
use Prim.Native.Nat.{ℕ, ◌*◌, ◌%◌, ◌^◌, ◌≤◌}
use native.Mathlib.Omega.{arith}
use lib.Pow.{pow_mono, pow_pos}
use Rattle.evaluation.specs.BegunCell.{addresses_of}
use Rattle.evaluation.proofs.cells.Begun.addresses.Goals as goal

one_shifted : (n : ℕ) → n ≤ 12 → 1 * 2 ^ n % 18446744073709551616 ≡ 2 ^ n
one_shifted n l = let h : 2 ^ n ≤ 4096 = pow_mono {j = 12} l in omega arith

pub overflow_sub-result : goal.overflow_sub-result
overflow_sub-result c =
    let a = c.args in
    let pre = c.requires in
    let h : 2 ^ a.self.ins ≤ 4096 = pow_mono {j = 12} (omega (arith, pre.0)) in
    omega (arith, h, pow_pos a.self.ins)

pub overflow_sub-result-2 : goal.overflow_sub-result-2
overflow_sub-result-2 c =
    let a = c.args in
    let pre = c.requires in
    let h : 2 ^ a.self.ins ≤ 4096 = pow_mono {j = 12} (omega (arith, pre.0)) in
    omega (arith, h, pre.2)

pub overflow_sub-result-3 : goal.overflow_sub-result-3
overflow_sub-result-3 c =
    let a = c.args in
    let pre = c.requires in
    let h : 2 ^ a.rail ≤ 4096 = pow_mono {j = 12} pre.1 in
    omega (arith, h, pow_pos a.rail)

pub overflow_add-result : goal.overflow_add-result
overflow_add-result c =
    let a = c.args in
    let pre = c.requires in
    let h : 2 ^ a.self.upper ≤ 4096 = pow_mono {j = 12} (omega (arith, pre.0)) in
    omega (arith, h)

pub returns : goal.returns
unfolding addresses_of
returns c =
    let a = c.args in
    let pre = c.requires in
    let b : 1 * 2 ^ a.self.ins % 18446744073709551616 ≡ 2 ^ a.self.ins = one_shifted a.self.ins (omega (arith, pre.0)) in
    let u : 1 * 2 ^ a.self.upper % 18446744073709551616 ≡ 2 ^ a.self.upper = one_shifted a.self.upper (omega (arith, pre.0)) in
    let r : 1 * 2 ^ a.rail % 18446744073709551616 ≡ 2 ^ a.rail = one_shifted a.rail pre.1 in
    rw (b, u, r) refl
