-- `evaluation::gather::move_words` moves the first words of a set.
-- Assumes nothing.
use mathlib.Core.Path.{◌≡◌, refl, sym}
use native.Mathlib.Omega.{arith}
use Rattle.laws.proofs.Puts.{puts_none, puts-next, get_or-next}
use Rattle.evaluation.specs.Agreeing.{word_at, no_word}
use Rattle.evaluation.proofs.gather.move_words.Goals as goal

pub loop-q-init : goal.loop-q-init
loop-q-init c = (sym (puts_none (word_at _) _), sym (puts_none no_word _))

pub offset_bounds-from-q : goal.offset_bounds-from-q
offset_bounds-from-q c = omega (arith, c.loop-q-test.true, c.requires)

pub bounds-from-q : goal.bounds-from-q
bounds-from-q c = omega (arith, c.loop-q-test.true, c.requires)

pub offset_bounds-to-q : goal.offset_bounds-to-q
offset_bounds-to-q c = omega (arith, c.loop-q-test.true, c.requires)

pub bounds-to-q : goal.bounds-to-q
bounds-to-q c = omega (arith, c.loop-q-test.true, c.requires)

pub offset_bounds-from-q-in-loop-q : goal.offset_bounds-from-q-in-loop-q
offset_bounds-from-q-in-loop-q c = omega (arith, c.loop-q-test.true, c.requires)

pub bounds-from-q-in-loop-q : goal.bounds-from-q-in-loop-q
bounds-from-q-in-loop-q c = omega (arith, c.loop-q-test.true, c.requires)

pub loop-q-smaller : goal.loop-q-smaller
loop-q-smaller c = omega (arith, c.loop-q-test.true)

pub loop-q-preserved : goal.loop-q-preserved
unfolding word_at no_word
loop-q-preserved c =
    let a = c.args in
    let l = c.loop-q in (
      puts-next (word_at a.from.now) l.q a.to.now l.to _ l.invariant.0 (get_or-next no_word l.q a.from.now l.from 0 l.invariant.1),
      puts-next no_word l.q a.from.now l.from 0 l.invariant.1 refl,
    )

pub returns : goal.returns
returns c =
    let l = c.loop-q in
    let e : l.q ≡ c.args.n = omega (arith, c.loop-q-test.false) in
    (rw e at l.invariant.0, rw e at l.invariant.1)
