-- `has_rows` tests whether the rows of records can be counted, with those of a cell k.
-- Assumes nothing.
use mathlib.Core.Path.{ap₂}
use mathlib.Core.Bool.{Bool, ◌&&◌}
use Prim.Native.Nat.{ℕ}
use lib.Dec.{ltb}
use Rattle.stored.proofs.reads.has_rows.Goals as goal

pub returns : goal.returns
returns c = ap₂ (λ (b : Bool) (n : ℕ). b && ltb c.args.k n) c.few_fit.ensures c.count_cells.ensures
