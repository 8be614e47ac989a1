-- `hit_among` tests each record against those before it.
-- Assumes nothing.
use mathlib.Core.Path.{◌≡◌}
use Rattle.laws.specs.Tests.{any}
use Rattle.sheet.specs.Pairs.{hit_in}
use Rattle.sheet.proofs.pairs.hit_among.Given as goal

abbrev pub invariant-loop-r : goal.invariant-loop-r
invariant-loop-r l = l.hit ≡ any l.r (λ k. any k (hit_in l.tests.masks l.tests.values l.all.forces l.all.against k))
