-- `cutting::cell_rows::write_same` meets its contract.
-- Assumes nothing.
use Prim.Native.Nat.{◌+◌, ◌-◌}
use native.Mathlib.Omega.{arith}
use Rattle.cutting.proofs.Stores.{filled-part}
use Rattle.cutting.proofs.cell_rows.write_same.Goals as goal

pub returns : goal.returns
returns c = let a = c.args in filled-part a.row a.at a.size (a.at + a.size - a.at) a.rows.now _ (omega arith) c.requires (c.fill.ensures.after (λ y e. e))
