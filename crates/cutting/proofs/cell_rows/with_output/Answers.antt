-- `cutting::cell_rows::with_output` meets its contract.
-- Assumes nothing.
use mathlib.Core.Path.{◌∙◌, ap}
use Prim.Native.Nat.{ℕ, ◌+◌, ◌*◌}
use lib.Dec.{eqb}
use Rattle.cutting.proofs.levels.LevelLists.{flag-more}
use Rattle.cutting.proofs.cell_rows.with_output.Goals as goal

pub returns : goal.returns
returns c = let a = c.args in ap (λ (n : ℕ). a.o * 2 + n) c.from.ensures ∙ flag-more (eqb a.low 0) (a.o * 2)
