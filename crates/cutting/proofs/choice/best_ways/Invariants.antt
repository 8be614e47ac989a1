-- The loop of `cutting::choice::best_ways`.
-- Assumes nothing.
use mathlib.Core.Path.{◌≡◌}
use lib.ListN.{replicate}
use Rattle.laws.specs.Lists.{puts}
use Rattle.cutting.specs.Levels.{rails_of, inputs_of}
use Rattle.cutting.specs.Ways.{no_way, list_way, ways_given}
use Rattle.cutting.proofs.choice.best_ways.Given as goal

abbrev pub invariant-loop-h : goal.invariant-loop-h
invariant-loop-h l = ways_given l.ways ≡ puts l.h (list_way l.k l.l (rails_of l.levels) (inputs_of l.levels)) (replicate 21 no_way)
