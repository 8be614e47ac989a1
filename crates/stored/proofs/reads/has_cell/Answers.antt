-- `has_cell` tests whether records are well formed and have a cell.
-- Assumes nothing.
use mathlib.Core.Path.{ap₂}
use mathlib.Core.Bool.{Bool, ◌&&◌}
use Prim.Native.Nat.{ℕ}
use lib.Dec.{ltb}
use Rattle.stored.specs.Reads.{has_cell}
use Rattle.stored.proofs.reads.has_cell.Goals as goal

pub returns : goal.returns
unfolding has_cell
returns c = ap₂ (λ (b : Bool) (n : ℕ). b && ltb c.args.k n) c.records_formed.ensures c.count_cells.ensures
