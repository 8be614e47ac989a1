-- `evaluation::gather::read_set` reads the rows of all rail words of a set.
-- Assumes nothing.
use mathlib.Core.Path.{◌≡◌, refl, sym, ◌∙◌, ap}
use Prim.Native.Nat.{ℕ, ◌+◌, ◌*◌}
use native.Mathlib.Nat.{mul-le-mul_right}
use native.Mathlib.Omega.{arith}
use Rattle.laws.specs.Bits.{has}
use Rattle.laws.proofs.Puts.{puts_none, puts-next, get_or-next}
use Rattle.evaluation.specs.Agreeing.{no_word, of_set}
use Rattle.evaluation.proofs.gather.SetWords.{in_at, rail_place, set_next}
use Rattle.evaluation.proofs.gather.read_set.Goals as goal

pub loop-q-init : goal.loop-q-init
loop-q-init c = (refl, sym (puts_none no_word _))

pub offset_bounds-set-q : goal.offset_bounds-set-q
offset_bounds-set-q c = omega (arith, c.loop-q-test.true, c.requires.1.words)

pub bounds-set-q : goal.bounds-set-q
bounds-set-q c = omega (arith, c.loop-q-test.true, c.requires.1.words)

pub offset_bounds-set-q-in-loop-q : goal.offset_bounds-set-q-in-loop-q
offset_bounds-set-q-in-loop-q c = omega (arith, c.loop-q-test.true, c.requires.1.words)

pub bounds-set-q-in-loop-q : goal.bounds-set-q-in-loop-q
bounds-set-q-in-loop-q c = omega (arith, c.loop-q-test.true, c.requires.1.words)

pub overflow_mul-q : goal.overflow_mul-q
overflow_mul-q c = omega (arith, c.loop-q-test.true, c.requires.1.words)

pub overflow_mul-q-in-loop-q : goal.overflow_mul-q-in-loop-q
overflow_mul-q-in-loop-q c =
    let a = c.args in
    let pre = c.requires in
    let l = c.loop-q in
    let h = mul-le-mul_right {m = l.q * 64} {n = 4096} a.p.now.block (omega (arith, c.loop-q-test.true, pre.1.words)) in
    omega (arith, h, pre.1.block)

pub overflow_add-p : goal.overflow_add-p
overflow_add-p c =
    let a = c.args in
    let pre = c.requires in
    let l = c.loop-q in
    let h = mul-le-mul_right {m = l.q * 64} {n = 4096} a.p.now.block (omega (arith, c.loop-q-test.true, pre.1.words)) in
    omega (arith, h, pre.1.at, pre.1.block)

pub read_word-g-requires : goal.read_word-g-requires
read_word-g-requires c =
    let a = c.args in
    let pre = c.requires in
    let l = c.loop-q in
    let less = c.loop-q-test.true in
    let h = mul-le-mul_right {m = l.q * 64} {n = 4096} a.p.now.block (omega (arith, less, pre.1.words)) in
    let word = get_or-next no_word l.q a.set.now l.set 0 l.invariant.1 in (
      λ b k e.
          omega (arith, pre.0 (l.q * 64 + b) (omega (arith, k, less, pre.1.words)) (in_at a.set.now l.q b k ∙ sym (ap (λ (x : ℕ). has x b) word) ∙ e), rail_place a.p.now.at l.q b a.p.now.block),
      pre.1,
      omega (arith, h, pre.1.at, pre.1.block),
    )

pub loop-q-smaller : goal.loop-q-smaller
loop-q-smaller c = omega (arith, c.loop-q-test.true)

pub loop-q-preserved : goal.loop-q-preserved
unfolding no_word
loop-q-preserved c =
    let a = c.args in
    let l = c.loop-q in
    let word = get_or-next no_word l.q a.set.now l.set 0 l.invariant.1 in (
      set_next a.rows.now a.p.now a.set.now _ l.q word l.invariant.0 c.read_word-g.ensures,
      puts-next no_word l.q a.set.now l.set 0 l.invariant.1 refl,
    )

pub returns : goal.returns
unfolding of_set
returns c =
    let l = c.loop-q in
    let e : l.q ≡ c.args.p.now.words = omega (arith, c.loop-q-test.false) in
    (rw e at l.invariant.0, rw e at l.invariant.1)
