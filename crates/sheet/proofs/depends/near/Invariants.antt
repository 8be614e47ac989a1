-- `sheet::depends::near` meets its contract.
-- Assumes nothing.
use mathlib.Core.Path.{◌≡◌}
use mathlib.Core.Bool.{cond}
use Prim.Native.Nat.{◌+◌, ◌^◌}
use lib.Dec.{eqb}
use lib.Bits.{bit_and}
use Rattle.laws.specs.Bits.{marks}
use Rattle.sheet.specs.Depends.{apart_at}
use Rattle.sheet.proofs.depends.near.Given as goal

abbrev pub invariant-loop-i : goal.invariant-loop-i
invariant-loop-i l = l.found ≡ marks l.d (λ k. cond (eqb (bit_and k (2 ^ l.q)) 0) (apart_at l.planes.zeros l.planes.ones (l.base + k) (l.base + k + 2 ^ l.q)) 0) l.i
