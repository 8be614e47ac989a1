-- `reduction::pass::words_in` meets its contract.
-- Assumes nothing.
use Prim.Native.Nat.{◌-◌, ◌^◌, ◌≤◌}
use lib.Pow.{pow_mono}
use native.Mathlib.Omega.{arith}
use Rattle.reduction.proofs.pass.words_in.Goals as goal

pub returns : goal.returns
returns c = let h : 2 ^ (c.args.a - 3) ≤ 512 = pow_mono {i = c.args.a - 3} {j = 9} (omega (arith, c.requires)) in omega arith
