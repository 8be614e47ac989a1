-- `hit_before` tests a record against those before it.
-- Assumes nothing.
use mathlib.Core.Path.{◌≡◌}
use Rattle.laws.specs.Tests.{any}
use Rattle.sheet.specs.Pairs.{hit_in}
use Rattle.sheet.proofs.pairs.hit_before.Given as goal

abbrev pub invariant-loop-q : goal.invariant-loop-q
invariant-loop-q l = l.hit ≡ any l.q (hit_in l.tests.masks l.tests.values l.all.forces l.all.against l.r)
