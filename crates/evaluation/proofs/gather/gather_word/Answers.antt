-- `evaluation::gather::gather_word` reads the rows of the rail words of a set that is one word, where the rail words below are one word too.
-- Assumes nothing.
use mathlib.Core.Path.{refl, sym, ◌∙◌}
use Prim.Native.Nat.{◌+◌}
use native.Mathlib.Nat.{div-one, mul-le-mul_right}
use native.Mathlib.Omega.{arith}
use lib.Bits.{bit_or}
use lib.ListN.{get_or, set}
use Rattle.evaluation.specs.Agreeing.{of_rail}
use Rattle.evaluation.proofs.gather.FewRails.{few-none, few_join}
use Rattle.evaluation.proofs.gather.SetWords.{rest-bit, bit_left, left_next, word_next, word-ends}
use Rattle.evaluation.proofs.gather.gather_word.Goals as goal

pub loop-left-init : goal.loop-left-init
loop-left-init c = (omega arith, sym (div-one c.args.word), λ s. few-none _ _ s)

pub lowest-skipped-requires : goal.lowest-skipped-requires
lowest-skipped-requires c = c.loop-left-test.true

pub overflow_add-rail : goal.overflow_add-rail
overflow_add-rail c =
    let a = c.args in
    let pre = c.requires in
    let l = c.loop-left in
    let z = c.lowest-skipped in
    let within = bit_left a.word l.b l.invariant.1 c.ranges.word.fits z.result z.ensures.2 in
    omega (arith, within)

pub overflow_mul-rail : goal.overflow_mul-rail
overflow_mul-rail c =
    let a = c.args in
    let pre = c.requires in
    let l = c.loop-left in
    let z = c.lowest-skipped in
    let within = bit_left a.word l.b l.invariant.1 c.ranges.word.fits z.result z.ensures.2 in
    let h = mul-le-mul_right {m = l.b + z.result} {n = 64} a.p.now.block (omega (arith, within)) in
    omega (arith, h, pre.1.block)

pub overflow_add-p : goal.overflow_add-p
overflow_add-p c =
    let a = c.args in
    let pre = c.requires in
    let l = c.loop-left in
    let z = c.lowest-skipped in
    let within = bit_left a.word l.b l.invariant.1 c.ranges.word.fits z.result z.ensures.2 in
    let h = mul-le-mul_right {m = l.b + z.result} {n = 64} a.p.now.block (omega (arith, within)) in
    omega (arith, h, pre.1.at, pre.1.block)

pub overflow_add-p-in-loop-left : goal.overflow_add-p-in-loop-left
overflow_add-p-in-loop-left c =
    let a = c.args in
    let pre = c.requires in
    let l = c.loop-left in
    let z = c.lowest-skipped in
    let within = bit_left a.word l.b l.invariant.1 c.ranges.word.fits z.result z.ensures.2 in
    let fits = pre.0 (l.b + z.result) within (sym (rest-bit a.word l.b l.invariant.1 z.result) ∙ z.ensures.2) in
    let h = mul-le-mul_right {m = l.b + z.result} {n = 64} a.p.now.block (omega (arith, within)) in
    omega (arith, h, pre.1.at, pre.1.block, fits)

pub read_either-few-requires : goal.read_either-few-requires
read_either-few-requires c =
    let a = c.args in
    let pre = c.requires in
    let l = c.loop-left in
    let z = c.lowest-skipped in
    let within = bit_left a.word l.b l.invariant.1 c.ranges.word.fits z.result z.ensures.2 in
    let fits = pre.0 (l.b + z.result) within (sym (rest-bit a.word l.b l.invariant.1 z.result) ∙ z.ensures.2) in
    (omega (arith, fits), pre.1, pre.2)

pub overflow_shr-left : goal.overflow_shr-left
overflow_shr-left c = c.lowest-skipped.ensures.0

pub overflow_add-b : goal.overflow_add-b
overflow_add-b c =
    let a = c.args in
    let pre = c.requires in
    let l = c.loop-left in
    let z = c.lowest-skipped in
    let within = bit_left a.word l.b l.invariant.1 c.ranges.word.fits z.result z.ensures.2 in
    omega (arith, within)

pub loop-left-smaller : goal.loop-left-smaller
loop-left-smaller c =
    let a = c.args in
    let pre = c.requires in
    let l = c.loop-left in
    let z = c.lowest-skipped in
    let within = bit_left a.word l.b l.invariant.1 c.ranges.word.fits z.result z.ensures.2 in
    omega (arith, within)

pub loop-left-preserved : goal.loop-left-preserved
unfolding of_rail
loop-left-preserved c =
    let a = c.args in
    let pre = c.requires in
    let l = c.loop-left in
    let z = c.lowest-skipped in
    let within = bit_left a.word l.b l.invariant.1 c.ranges.word.fits z.result z.ensures.2 in (
      omega (arith, within),
      left_next a.word l.b l.invariant.1 z.result,
      λ s.
          word_next a.rows.now a.p.now a.word a.p.now.at (record { some = 0; each = 65535; next = s }) l.b z.result l.invariant.1 z.ensures.1 z.ensures.2 refl (l.invariant.2 s)
          (few_join _ _ l.rails _ s ∙ c.read_either-few.ensures (set s 0 (bit_or (get_or s 0 0) l.rails))),
    )

pub returns : goal.returns
returns c =
    let a = c.args in
    let l = c.loop-left in
    λ s. word-ends a.rows.now a.p.now a.word a.p.now.at (record { some = 0; each = 65535; next = s }) l.b l.invariant.0 l.invariant.1 c.loop-left-test.false (l.invariant.2 s)
