-- `times` counts a byte in the order.
-- Assumes nothing.
use mathlib.Core.Path.{◌≡◌}
use Prim.Native.Nat.{◌≤◌}
use lib.Dec.{eqb}
use lib.ListN.{get_or}
use Rattle.laws.specs.Tests.{count}
use Rattle.sheet.proofs.order.times.Given as goal

abbrev pub invariant-loop-x : goal.invariant-loop-x
invariant-loop-x l = (l.found ≤ l.x-index) × (l.found ≡ count l.x-index (λ k. eqb (get_or l.order k 0) l.v))
