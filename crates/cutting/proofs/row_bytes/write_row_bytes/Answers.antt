-- `cutting::row_bytes::write_row_bytes` meets its contract.
-- Assumes nothing.
use mathlib.Core.Path.{◌∙◌, ap}
use mathlib.Core.List.{List}
use Prim.Native.Nat.{ℕ, ◌*◌}
use Rattle.laws.specs.Lists.{puts}
use Rattle.cutting.specs.Plan.{row_byte}
use Rattle.cutting.proofs.row_bytes.write_row_bytes.Goals as goal

pub returns : goal.returns
returns c =
    let a = c.args in
    c.store_rows.ensures ∙ ap (λ (x : List ℕ). puts (a.plan.now.rows * 2) (row_byte x) a.rows.now) c.write_cells.ensures
