-- `load_byte` stores one byte of each record of a kind.
-- Assumes nothing.
use mathlib.Core.Path.{◌≡◌}
use Rattle.laws.specs.Lists.{puts}
use Rattle.sheet.specs.Planes.{kind_byte}
use Rattle.sheet.proofs.records.Sheet.load_byte.Given as goal

abbrev pub invariant-loop-r : goal.invariant-loop-r
invariant-loop-r l = l.out ≡ puts l.r (kind_byte l.self.bytes.now l.kind l.at) l.initial.out
