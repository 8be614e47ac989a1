-- `cutting::plan::row_total` meets its contract.
-- Assumes nothing.
use Prim.Native.Nat.{◌+◌}
use mathlib.Core.Path.{◌≡◌, ◌∙◌, ap}
use native.Mathlib.Omega.{arith}
use Rattle.stored_spec.proofs.Promises.{rows-small}
use Rattle.cutting.specs.Levels.{rails_of, inputs_of}
use Rattle.cutting.specs.Plan.{rows_to}
use Rattle.cutting.proofs.plan.PlanSteps.{rows_start, rows_step, rows_most}
use Rattle.cutting.proofs.plan.row_total.Goals as goal

pub loop-i-init : goal.loop-i-init
loop-i-init c =
    let a = c.args in
    rows_start (rails_of a.levels.now) (inputs_of a.levels.now) a.cuts.now

pub cell_at-requires : goal.cell_at-requires
cell_at-requires c =
    let p = c.requires in
    let s = c.loop-i in
    (omega (arith, c.from-top.ensures, p.1 s.i (omega arith)), omega (arith, c.from-bottom.ensures, p.1 (s.i + 1) (omega arith)))

pub overflow_add-rows : goal.overflow_add-rows
overflow_add-rows c =
    let a = c.args in
    let s = c.loop-i in
    omega (arith, s.invariant, rows_most (rails_of a.levels.now) (inputs_of a.levels.now) a.cuts.now s.i, rows-small c.cell_at.result, c.rows-rows.ensures)

pub loop-i-preserved : goal.loop-i-preserved
loop-i-preserved c =
    let a = c.args in
    let s = c.loop-i in rows_step (rails_of a.levels.now) (inputs_of a.levels.now) a.cuts.now s.i s.rows _ _ _ _ s.invariant
    c.from-top.ensures c.from-bottom.ensures c.cell_at.ensures c.rows-rows.ensures

pub returns : goal.returns
returns c =
    let a = c.args in
    let s = c.loop-i in
    let e : s.i ≡ a.cells = omega arith in
    s.invariant ∙ ap (rows_to (rails_of a.levels.now) (inputs_of a.levels.now) a.cuts.now) e
