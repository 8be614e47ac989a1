-- The loop of `cutting::levels::levels_of`.
-- Assumes nothing.
use mathlib.Core.Path.{◌≡◌}
use lib.ListN.{length, replicate}
use Rattle.laws.specs.Lists.{puts}
use Rattle.cutting.specs.Levels.{no_level, inputs_in, level_in}
use Rattle.cutting.proofs.levels.levels_of.Given as goal

abbrev pub invariant-loop-h : goal.invariant-loop-h
invariant-loop-h l =
    (l.inputs ≡ inputs_in (length l.order) l.order l.h) × (l.levels ≡ puts l.h (level_in (length l.order) l.order l.widths) (replicate 21 no_level))
