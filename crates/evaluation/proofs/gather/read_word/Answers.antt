-- `evaluation::gather::read_word` reads the rows of the rail words in one word of the set.
-- Assumes nothing.
use mathlib.Core.Path.{refl, sym, ◌∙◌}
use Prim.Native.Nat.{◌+◌}
use native.Mathlib.Nat.{div-one, mul-le-mul_right}
use native.Mathlib.Omega.{arith}
use Rattle.evaluation.specs.Agreeing.{gathered_of, of_rail}
use Rattle.evaluation.proofs.gather.SetWords.{rest-bit, bit_left, left_next, word_next, word-ends}
use Rattle.evaluation.proofs.gather.read_word.Goals as goal

pub loop-rest-init : goal.loop-rest-init
loop-rest-init c = (omega arith, sym (div-one c.args.word), refl)

pub lowest-skipped-requires : goal.lowest-skipped-requires
lowest-skipped-requires c = c.loop-rest-test.true

pub overflow_add-rail : goal.overflow_add-rail
overflow_add-rail c =
    let a = c.args in
    let pre = c.requires in
    let l = c.loop-rest in
    let z = c.lowest-skipped in
    let within = bit_left a.word l.b l.invariant.1 c.ranges.word.fits z.result z.ensures.2 in
    omega (arith, within)

pub overflow_mul-first : goal.overflow_mul-first
overflow_mul-first c =
    let a = c.args in
    let pre = c.requires in
    let l = c.loop-rest in
    let z = c.lowest-skipped in
    let within = bit_left a.word l.b l.invariant.1 c.ranges.word.fits z.result z.ensures.2 in
    let h = mul-le-mul_right {m = l.b + z.result} {n = 64} a.p.now.block (omega (arith, within)) in
    omega (arith, h, pre.1.block)

pub overflow_add-first : goal.overflow_add-first
overflow_add-first c =
    let a = c.args in
    let pre = c.requires in
    let l = c.loop-rest in
    let z = c.lowest-skipped in
    let within = bit_left a.word l.b l.invariant.1 c.ranges.word.fits z.result z.ensures.2 in
    let h = mul-le-mul_right {m = l.b + z.result} {n = 64} a.p.now.block (omega (arith, within)) in
    omega (arith, h, pre.2, pre.1.block)

pub overflow_add-first-in-loop-rest : goal.overflow_add-first-in-loop-rest
overflow_add-first-in-loop-rest c =
    let a = c.args in
    let pre = c.requires in
    let l = c.loop-rest in
    let z = c.lowest-skipped in
    let within = bit_left a.word l.b l.invariant.1 c.ranges.word.fits z.result z.ensures.2 in
    let fits = pre.0 (l.b + z.result) within (sym (rest-bit a.word l.b l.invariant.1 z.result) ∙ z.ensures.2) in
    let h = mul-le-mul_right {m = l.b + z.result} {n = 64} a.p.now.block (omega (arith, within)) in
    omega (arith, h, pre.2, pre.1.block, fits)

pub read_one-g-requires : goal.read_one-g-requires
read_one-g-requires c =
    let a = c.args in
    let pre = c.requires in
    let l = c.loop-rest in
    let z = c.lowest-skipped in
    let within = bit_left a.word l.b l.invariant.1 c.ranges.word.fits z.result z.ensures.2 in
    let fits = pre.0 (l.b + z.result) within (sym (rest-bit a.word l.b l.invariant.1 z.result) ∙ z.ensures.2) in
    (omega (arith, fits), pre.1)

pub overflow_shr-rest : goal.overflow_shr-rest
overflow_shr-rest c = c.lowest-skipped.ensures.0

pub overflow_add-b : goal.overflow_add-b
overflow_add-b c =
    let a = c.args in
    let pre = c.requires in
    let l = c.loop-rest in
    let z = c.lowest-skipped in
    let within = bit_left a.word l.b l.invariant.1 c.ranges.word.fits z.result z.ensures.2 in
    omega (arith, within)

pub loop-rest-smaller : goal.loop-rest-smaller
loop-rest-smaller c =
    let a = c.args in
    let pre = c.requires in
    let l = c.loop-rest in
    let z = c.lowest-skipped in
    let within = bit_left a.word l.b l.invariant.1 c.ranges.word.fits z.result z.ensures.2 in
    omega (arith, within)

pub loop-rest-preserved : goal.loop-rest-preserved
unfolding of_rail
loop-rest-preserved c =
    let a = c.args in
    let pre = c.requires in
    let l = c.loop-rest in
    let z = c.lowest-skipped in
    let within = bit_left a.word l.b l.invariant.1 c.ranges.word.fits z.result z.ensures.2 in (
      omega (arith, within),
      left_next a.word l.b l.invariant.1 z.result,
      word_next a.rows.now a.p.now a.word a.base (gathered_of a.seen a.next.now) l.b z.result l.invariant.1 z.ensures.1 z.ensures.2 refl l.invariant.2 c.read_one-g.ensures,
    )

pub returns : goal.returns
returns c =
    let a = c.args in
    let l = c.loop-rest in
    word-ends a.rows.now a.p.now a.word a.base (gathered_of a.seen a.next.now) l.b l.invariant.0 l.invariant.1 c.loop-rest-test.false l.invariant.2
