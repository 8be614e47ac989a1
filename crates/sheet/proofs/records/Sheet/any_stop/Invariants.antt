-- `sheet::records::Sheet::any_stop` meets its contract.
-- Assumes nothing.
use mathlib.Core.Path.{◌≡◌}
use lib.Dec.{eqb}
use Rattle.laws.specs.Tests.{any}
use Rattle.sheet_spec.specs.Records.{kind, stop}
use Rattle.sheet.proofs.records.Sheet.any_stop.Given as goal

abbrev pub invariant-loop-r : goal.invariant-loop-r
invariant-loop-r l = l.found ≡ any l.r (λ k. eqb (kind l.self.bytes.now k) stop)
