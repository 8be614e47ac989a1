-- `sheet::planes::mark_some` meets its contract.
-- Assumes nothing.
use mathlib.Core.Path.{◌≡◌, ◌∙◌}
use native.Mathlib.Omega.{arith}
use Rattle.sheet.specs.Planes.{some_added}
use Rattle.sheet.proofs.planes.PlaceBlocks.{some_marked, some_kept}
use Rattle.laws.proofs.Marks.{marks_start, marks-next}
use Rattle.sheet.proofs.planes.mark_some.Goals as goal
use Rattle.sheet.proofs.planes.mark_some.Goals.{then-k-upper, else-k-upper}

pub loop-r-init : goal.loop-r-init
loop-r-init t c =
    let a = c.args in
    marks_start (some_added a.upper a.tests.now.masks a.tests.now.values a.forces.now) a.plane.now t.row.N

pub loop-r-preserved : goal.loop-r-preserved
loop-r-preserved t c =
    let l = c.loop-r in
    let a = c.args in
    let ks = a.tests.now.masks in
    let vs = a.tests.now.values in
    let fs = a.forces.now in
    let next = marks-next (some_added a.upper ks vs fs) a.plane.now l.plane t.row.N l.r l.invariant in
    elim c.if-k-upper.branch [
      | then-k-upper w ↦
          w.plane-is ∙ w.mark_record.ensures ∙ some_marked a.upper ks vs fs l.plane t.row.N l.r w.if-k-upper.true ∙ next
      | else-k-upper w ↦ w.plane-is ∙ some_kept a.upper ks vs fs l.plane t.row.N l.r w.if-k-upper.false ∙ next
    ]

pub returns : goal.returns
returns t c =
    let l = c.loop-r in
    let e : l.r ≡ c.args.count = omega arith in
    rw e at l.invariant
