-- `evaluation::gather::read_rail` reads the rows of one rail word.
-- Assumes nothing.
use mathlib.Core.Path.{◌≡◌, refl}
use native.Mathlib.Omega.{arith}
use Rattle.evaluation.specs.Agreeing.{gathered_of, part_of}
use Rattle.evaluation.proofs.gather.Parts.{whole-small, part_le, part_next, row_next}
use Rattle.evaluation.proofs.gather.read_rail.Goals as goal

pub loop-j-init : goal.loop-j-init
unfolding part_of
loop-j-init c = (refl, refl)

pub overflow_add-first : goal.overflow_add-first
overflow_add-first c =
    let a = c.args in
    let l = c.loop-j in
    omega (arith, part_le a.p.now.mask a.p.now.free l.j, l.invariant.0)

pub row_at-requires : goal.row_at-requires
row_at-requires c =
    let a = c.args in
    let l = c.loop-j in
    omega (arith, part_le a.p.now.mask a.p.now.free l.j, l.invariant.0)

pub overflow_add-part : goal.overflow_add-part
overflow_add-part c =
    let p = c.args.p.now in
    omega (arith, part_le p.mask p.free c.loop-j.j, c.loop-j.invariant.0, whole-small c.requires.1.whole)

pub overflow_add-part-in-loop-j : goal.overflow_add-part-in-loop-j
overflow_add-part-in-loop-j c =
    let p = c.args.p.now in
    omega (arith, part_le p.mask p.free c.loop-j.j, c.loop-j.invariant.0, whole-small c.requires.1.whole)

pub loop-j-preserved : goal.loop-j-preserved
loop-j-preserved c =
    let a = c.args in
    let l = c.loop-j in (
      part_next a.p.now.mask a.p.now.free l.j l.invariant.0,
      row_next a.rows.now a.first a.p.now.mask a.p.now.free a.p.now.low l.j (gathered_of a.seen a.next.now) l.invariant.0 c.row_at.ensures l.invariant.1 c.with_row-g.ensures,
    )

pub returns : goal.returns
returns c =
    let l = c.loop-j in
    let e : l.j ≡ c.args.p.now.count = omega arith in
    rw e at l.invariant.1
