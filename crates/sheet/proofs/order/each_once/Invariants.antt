-- `each_once` tests that each of the variables stands in the order once.
-- Assumes nothing.
use mathlib.Core.Path.{◌≡◌}
use Prim.Native.Nat.{◌+◌}
use lib.Dec.{eqb}
use Rattle.laws.specs.Tests.{every}
use Rattle.sheet_spec.specs.Refusals.{times}
use Rattle.sheet.proofs.order.each_once.Given as goal

abbrev pub invariant-loop-i : goal.invariant-loop-i
invariant-loop-i l = l.all ≡ every l.i (λ j. eqb (times l.order (l.v + j)) 1)
