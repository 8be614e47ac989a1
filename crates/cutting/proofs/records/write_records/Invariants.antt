-- The loops of `cutting::records::write_records`.
-- Assumes nothing.
use mathlib.Core.Path.{◌≡◌}
use Prim.Native.Nat.{◌+◌}
use lib.ListN.{length}
use lib.Seq.{sets}
use Rattle.laws.specs.Lists.{joined}
use Rattle.cutting.specs.Levels.{rails_of}
use Rattle.cutting.specs.Plan.{record_in}
use Rattle.cutting.proofs.records.write_records.Given as goal

abbrev pub invariant-loop-i : goal.invariant-loop-i
invariant-loop-i l =
    l.records ≡ sets l.initial.records 0 (joined l.i (record_in (length l.order) l.order (rails_of l.plan.levels) l.plan.cuts (l.plan.cells + 1)))
