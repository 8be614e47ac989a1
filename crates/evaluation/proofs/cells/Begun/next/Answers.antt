-- `evaluation::cells::Begun::next` meets its contract.
-- Assumes nothing.
use mathlib.Core.Path.{◌≡◌, refl}
use Prim.Native.Nat.{◌+◌, ◌*◌, ◌%◌, ◌^◌, ◌≤◌}
use native.Mathlib.Omega.{arith}
use lib.Pow.{pow_mono}
use Rattle.evaluation.specs.BegunCell.{next_cell}
use Rattle.evaluation.proofs.cells.Begun.next.Goals as goal

pub overflow_add-result-2 : goal.overflow_add-result-2
overflow_add-result-2 c =
    let a = c.args in
    let pre = c.requires in
    let h : 2 ^ (a.self.upper + a.self.ins) ≤ 4096 = pow_mono {j = 12} (omega (arith, pre.0)) in
    omega (arith, h, pre.1)

pub returns : goal.returns
unfolding next_cell
returns c =
    let a = c.args in
    let pre = c.requires in
    let h : 2 ^ (a.self.upper + a.self.ins) ≤ 4096 = pow_mono {j = 12} (omega (arith, pre.0)) in
    let e : 1 * 2 ^ (a.self.upper + a.self.ins) % 18446744073709551616 ≡ 2 ^ (a.self.upper + a.self.ins) = omega (arith, h) in
    rw e refl
