-- The loops of `cutting::plan::row_total`.
-- Assumes nothing.
use mathlib.Core.Path.{◌≡◌}
use Rattle.cutting.specs.Levels.{rails_of, inputs_of}
use Rattle.cutting.specs.Plan.{rows_to}
use Rattle.cutting.proofs.plan.row_total.Given as goal

abbrev pub invariant-loop-i : goal.invariant-loop-i
invariant-loop-i l = l.rows ≡ rows_to (rails_of l.levels) (inputs_of l.levels) l.cuts l.i
