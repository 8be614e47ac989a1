-- `evaluation::gather::read_few` reads the rows of one rail word, where the rail words below are few.
-- Assumes nothing.
use mathlib.Core.Path.{◌≡◌, refl}
use Prim.Native.Nat.{◌<◌}
use native.Mathlib.Omega.{arith}
use lib.Bits.{bit_and, and_le_r}
use Rattle.evaluation.specs.Agreeing.{gathered_of, part_of}
use Rattle.evaluation.proofs.gather.FewRails.{few-none, few-next}
use Rattle.evaluation.proofs.gather.Parts.{whole-small, part_le, part_next}
use Rattle.evaluation.proofs.gather.read_few.Goals as goal

pub loop-j-init : goal.loop-j-init
unfolding part_of
loop-j-init c = (refl, λ s. few-none _ _ s)

pub overflow_add-first : goal.overflow_add-first
overflow_add-first c =
    let a = c.args in
    let l = c.loop-j in
    omega (arith, part_le a.p.now.mask a.p.now.free l.j, l.invariant.0)

pub row_at-x-requires : goal.row_at-x-requires
row_at-x-requires c =
    let a = c.args in
    let l = c.loop-j in
    omega (arith, part_le a.p.now.mask a.p.now.free l.j, l.invariant.0)

pub overflow_shl-rails : goal.overflow_shl-rails
overflow_shl-rails c =
    let a = c.args in
    omega (arith, and_le_r c.from.result a.p.now.low, c.requires.2)

pub overflow_add-part : goal.overflow_add-part
overflow_add-part c =
    let p = c.args.p.now in
    omega (arith, part_le p.mask p.free c.loop-j.j, c.loop-j.invariant.0, whole-small c.requires.1.whole)

pub overflow_add-part-in-loop-j : goal.overflow_add-part-in-loop-j
overflow_add-part-in-loop-j c =
    let p = c.args.p.now in
    omega (arith, part_le p.mask p.free c.loop-j.j, c.loop-j.invariant.0, whole-small c.requires.1.whole)

pub loop-j-smaller : goal.loop-j-smaller
loop-j-smaller c = omega (arith, c.loop-j-test.true)

pub loop-j-preserved : goal.loop-j-preserved
loop-j-preserved c =
    let a = c.args in
    let l = c.loop-j in
    let few : bit_and c.from.result a.p.now.low < 64 = omega (arith, and_le_r c.from.result a.p.now.low, c.requires.2) in (
      part_next a.p.now.mask a.p.now.free l.j l.invariant.0,
      λ s. rw c.with-g.ensures (few-next a.rows.now a.first a.p.now.mask a.p.now.free a.p.now.low l.j (gathered_of a.seen s) s l.rails l.invariant.0 c.row_at-x.ensures c.from.ensures few (l.invariant.1 s)),
    )

pub returns : goal.returns
returns c =
    let l = c.loop-j in
    let e : l.j ≡ c.args.p.now.count = omega (arith, c.loop-j-test.false) in
    rw e at l.invariant.1
