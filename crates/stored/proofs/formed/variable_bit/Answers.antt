-- `variable_bit` has the one bit at the variable's place.
-- Assumes nothing.
use mathlib.Core.Path.{◌∙◌}
use native.Mathlib.Nat.{one-mul}
use native.Mathlib.Omega.{arith}
use lib.Pow.{shl_exact}
use Prim.Native.Nat.{◌^◌}
use Rattle.stored.specs.Formed.{place_of}
use Rattle.stored.proofs.formed.variable_bit.Goals as goal

pub returns : goal.returns
returns c =
    let p = place_of c.args.v in
    rw (c.from.ensures, c.from-2.ensures)
    (shl_exact {a = 1} 1 p 64 (omega arith) (omega arith) ∙ one-mul (2 ^ p))
