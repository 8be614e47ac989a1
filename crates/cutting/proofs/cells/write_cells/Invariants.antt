-- The loop of `cutting::cells::write_cells`.
-- Assumes nothing.
use mathlib.Core.Path.{◌≡◌}
use Rattle.cutting.specs.Levels.{rails_of, inputs_of}
use Rattle.cutting.specs.Plan.{rows_to}
use Rattle.cutting.specs.Spans.{cells_stored}
use Rattle.cutting.proofs.cells.write_cells.Given as goal

abbrev pub invariant-loop-i : goal.invariant-loop-i
invariant-loop-i l =
    (l.at ≡ rows_to (rails_of l.plan.levels) (inputs_of l.plan.levels) l.plan.cuts l.i)
    × (l.rows ≡ cells_stored l.diagram l.plan.levels l.plan.cuts l.i l.initial.rows)
