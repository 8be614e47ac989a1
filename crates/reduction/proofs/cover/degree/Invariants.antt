-- `reduction::cover::degree` meets its contract.
-- Assumes nothing.
use mathlib.Core.Path.{◌≡◌}
use Prim.Native.Nat.{◌≤◌, ◌+◌, ◌*◌}
use Rattle.laws.specs.Tests.{sum}
use Rattle.laws.specs.Bits.{flag}
use Rattle.reduction_spec.specs.Cover.{is_in}
use Rattle.reduction.proofs.cover.degree.Given as goal

abbrev pub invariant-loop-d : goal.invariant-loop-d
invariant-loop-d l = (l.n ≤ l.d) × (l.n ≡ sum l.d (λ i. flag (is_in l.link (l.c * l.w + i))))
