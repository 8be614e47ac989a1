-- `evaluation::cells::Begun::with_variable` meets its contract.
-- Assumes nothing.
use mathlib.Core.Path.{sym}
use Prim.Native.Nat.{◌^◌, ◌≤◌}
use native.Mathlib.Omega.{arith}
use lib.Bits.{bit_and}
use lib.Pow.{pow_mono}
use borrow.Author.Tests.{lt-ltb, le-ltb}
use Rattle.laws.proofs.Bits.{bit-lt}
use Rattle.laws.proofs.Cases.{cond_yes, cond_no}
use Rattle.evaluation.specs.BegunCell.{with_var}
use Rattle.evaluation.proofs.cells.Begun.with_variable.Goals as goal

pub overflow_shr-is_known : goal.overflow_shr-is_known
overflow_shr-is_known c = omega (arith, c.requires.0 c.if-v-lt128.true)

pub overflow_shr-bit : goal.overflow_shr-bit
overflow_shr-bit c = omega (arith, c.requires.0 c.if-v-lt128.true)

pub overflow_mul-result : goal.overflow_mul-result
overflow_mul-result c =
    let a = c.args in
    let pre = c.requires in
    let h : 2 ^ a.self.ins ≤ 1048576 = pow_mono {j = 20} pre.1.ins in
    omega (arith, h, pre.1.mask)

pub overflow_add-result-then-v-lt128 : goal.overflow_add-result-then-v-lt128
overflow_add-result-then-v-lt128 c =
    let a = c.args in
    let pre = c.requires in
    let h : 2 ^ a.self.ins ≤ 1048576 = pow_mono {j = 20} pre.1.ins in
    omega (arith, h, pre.1.mask, bit-lt a.asked.now.known a.v)

pub overflow_mul-result-then-v-lt128 : goal.overflow_mul-result-then-v-lt128
overflow_mul-result-then-v-lt128 c =
    let a = c.args in
    let pre = c.requires in
    let h : 2 ^ a.self.ins ≤ 1048576 = pow_mono {j = 20} pre.1.ins in
    omega (arith, h, pre.1.value)

pub overflow_add-result-then-v-lt128-2 : goal.overflow_add-result-then-v-lt128-2
overflow_add-result-then-v-lt128-2 c =
    let a = c.args in
    let pre = c.requires in
    let h : 2 ^ a.self.ins ≤ 1048576 = pow_mono {j = 20} pre.1.ins in
    omega (arith, h, pre.1.value, bit-lt (bit_and a.asked.now.word a.asked.now.known) a.v)

pub more_fillings-requires : goal.more_fillings-requires
more_fillings-requires c =
    let a = c.args in
    let pre = c.requires in
    let h : 2 ^ a.self.ins ≤ 1048576 = pow_mono {j = 20} pre.1.ins in
    omega (arith, h, pre.1.count)

pub returns-then-v-lt128 : goal.returns-then-v-lt128
unfolding with_var
returns-then-v-lt128 c =
    rw (c.from.ensures, c.from-then-v-lt128.ensures, c.more_fillings.ensures) (sym (cond_yes _ _ _ (lt-ltb c.args.v 128 c.if-v-lt128.true)))

pub returns : goal.returns
unfolding with_var
returns c = sym (cond_no _ _ _ (le-ltb c.args.v 128 c.if-v-lt128.false))
