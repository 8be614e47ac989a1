-- `sheet::depends::far` meets its contract.
-- Assumes nothing.
use mathlib.Core.Path.{◌≡◌}
use Prim.Native.Nat.{◌+◌}
use Rattle.laws.specs.Bits.{marks}
use Rattle.sheet.specs.Depends.{apart_at}
use Rattle.sheet.proofs.depends.far.Given as goal

abbrev pub invariant-loop-i : goal.invariant-loop-i
invariant-loop-i l = l.found ≡ marks l.d (λ k. apart_at l.planes.zeros l.planes.ones (l.base + k) (l.base + l.step + k)) l.i
