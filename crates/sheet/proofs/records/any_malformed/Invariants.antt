-- `any_malformed` is refusal 4's test.
-- Assumes nothing.
use mathlib.Core.Path.{◌≡◌}
use Rattle.laws.specs.Tests.{any}
use Rattle.sheet_spec.specs.Refusals.{malformed}
use Rattle.sheet.proofs.records.any_malformed.Given as goal

abbrev pub invariant-loop-r : goal.invariant-loop-r
invariant-loop-r l = l.found ≡ any l.r (malformed l.n l.m l.sheet)
