-- The loop of `cutting::plan::follow`.
-- Assumes nothing.
use Prim.Native.Nat.{◌≤◌}
use mathlib.Core.Path.{◌≡◌}
use lib.ListN.{replicate}
use Rattle.laws.specs.Lists.{puts}
use Rattle.cutting.specs.Ways.{nexts_of}
use Rattle.cutting.specs.Plan.{cut_in}
use Rattle.cutting.proofs.plan.follow.Given as goal

abbrev pub invariant-loop-i : goal.invariant-loop-i
invariant-loop-i l = (l.cut ≤ 20) × (l.cut ≡ cut_in (nexts_of l.ways) l.t l.i) × (l.cuts ≡ puts l.i (cut_in (nexts_of l.ways) l.t) (replicate 21 0))
