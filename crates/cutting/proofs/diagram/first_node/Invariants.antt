-- The loops of `cutting::diagram::first_node`.
-- Assumes nothing.
use mathlib.Core.Path.{◌≡◌}
use Prim.Native.Nat.{◌≤◌, ◌+◌, ◌-◌, ◌*◌}
use lib.ListN.{length}
use Rattle.laws.specs.Tests.{sum}
use Rattle.cutting.specs.Plan.{width_up}
use Rattle.cutting.proofs.diagram.first_node.Given as goal

abbrev pub invariant-loop-i : goal.invariant-loop-i
invariant-loop-i l = (l.first ≡ 2 + sum l.i (λ k. width_up (length l.diagram.order.now) l.diagram.widths.now (length l.diagram.order.now - k))) × (l.first ≤ 2 + l.i * 512)
