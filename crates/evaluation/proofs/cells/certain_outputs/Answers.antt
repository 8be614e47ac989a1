-- `evaluation::cells::certain_outputs` tells the outputs of a well formed cascade.
-- Assumes nothing.
use mathlib.Core.Path.{◌≡◌, refl, ◌∙◌, ap}
use Prim.Native.Nat.{ℕ}
use native.Mathlib.Omega.{arith}
use Rattle.stored_spec.specs.StoredForm.{record_count, reading, rows_before}
use Rattle.stored_spec.specs.Run.{address}
use Rattle.stored.proofs.CellReads.{cells-all}
use Rattle.evaluation_spec.specs.RailSets.{rail_set, some_outs, each_outs}
use Rattle.evaluation.specs.Answer.{told_by}
use Rattle.evaluation.specs.BegunCell.{ended_by, start_of, fillings, begun_by, begun_at}
use Rattle.evaluation.proofs.cells.ToldOutputs.{told-unset, told-all}
use Rattle.evaluation.proofs.cells.certain_outputs.Goals as goal

pub loop-i-init : goal.loop-i-init
unfolding begun_at begun_by start_of rows_before reading address fillings rail_set some_outs each_outs
loop-i-init c = record { begun = refl; carried = record { set = c.mark.ensures; spare = refl; outputs = told-unset } }

pub read-requires : goal.read-requires
read-requires c = (c.requires, c.loop-i-test.true, c.loop-i.invariant)

pub returns : goal.returns
returns c =
    let l = c.loop-i in
    let q = c.args.asked.now in
    let R = q.records.now in
    let e : l.i ≡ record_count R = omega (arith, c.loop-i-test.false, c.loop-i.auto.i-end) in
    let n = ap (ended_by R) e ∙ cells-all R in
    l.invariant.carried.outputs
    ∙ ap (λ (k : ℕ). told_by (some_outs q.known q.word R q.rows.now k) (each_outs q.known q.word R q.rows.now k)) n ∙ told-all q.known q.word R q.rows.now
