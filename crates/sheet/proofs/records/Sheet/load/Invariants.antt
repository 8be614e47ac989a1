-- `load` stores two bytes of each record as a number.
-- Assumes nothing.
use mathlib.Core.Path.{◌≡◌}
use Rattle.laws.specs.Lists.{puts}
use Rattle.sheet.specs.Pairs.{pair_of}
use Rattle.sheet.proofs.records.Sheet.load.Given as goal

abbrev pub invariant-loop-r : goal.invariant-loop-r
invariant-loop-r l = l.out ≡ puts l.r (pair_of l.self.bytes.now l.lo l.hi) l.initial.out
