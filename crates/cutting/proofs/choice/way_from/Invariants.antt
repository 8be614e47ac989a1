-- The loops of `cutting::choice::way_from`.
-- Assumes nothing.
use Rattle.cutting.proofs.choice.ChoiceSteps.{best_below}
use mathlib.Core.Path.{◌≡◌}
use Rattle.cutting.specs.Levels.{rails_of, inputs_of}
use Rattle.cutting.specs.Ways.{way_given}
use Rattle.cutting.proofs.choice.way_from.Given as goal

abbrev pub invariant-loop-g : goal.invariant-loop-g
invariant-loop-g l = way_given l.best ≡ best_below l.k l.l (rails_of l.levels) (inputs_of l.levels) l.h l.g
