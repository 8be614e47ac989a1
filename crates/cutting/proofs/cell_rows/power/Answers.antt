-- `cutting::cell_rows::power` meets its contract.
-- Assumes nothing.
use Prim.Native.Nat.{◌≤◌, ◌^◌}
use lib.Pow.{pow_mono}
use native.Mathlib.Omega.{arith}
use Rattle.cutting.proofs.cell_rows.power.Goals as goal

pub returns : goal.returns
returns c =
    let h : 2 ^ c.args.n ≤ 4096 = pow_mono c.requires in
    (omega arith, omega arith)
