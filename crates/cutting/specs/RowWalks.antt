-- The rows of a cell as walks over the node words make them.
-- Assumes nothing.
use Rattle.std.specs.Prelude.{ℕ, ◌+◌, ◌-◌, ◌*◌, ◌/◌, ◌%◌, ◌^◌, cond, List, eqb, ltb}
use Rattle.sheet_spec.specs.Job.{Job}
use Rattle.reduction_spec.specs.Diagram.{nodes_above}
use Rattle.reduction_spec.specs.declared.Reached.{Reached}
use Rattle.reduction_spec.specs.Descent.{descent}

-- the node of column 0 at height h; below height 1 it is constant 1
unfoldable pub first_at : Job → List (List ℕ) → ℕ → ℕ
first_at j ls h = cond (eqb h 0) 1 (2 + nodes_above j ls h)

-- a row from the end of its walk: the outputs met, then the column reached. lower is the node of column 0 at the lower cut
unfoldable pub row_from : ℕ → ℕ → Reached → ℕ
row_from lower rails d = d.outputs * 2 ^ rails + (d.node - lower)

-- the cell from the cut top down to the cut bottom
module _ (words order : List ℕ) (top bottom : ℕ) where
  -- the row of the node v at the upper cut, for the values x of the count inputs between
  unfoldable pub node_row : ℕ → ℕ → ℕ → ℕ → ℕ → ℕ
  node_row lower rails count v x = row_from lower rails (descent words order top bottom v x count)

  -- row i, where the nodes at the upper cut are width many, from upper on
  unfoldable pub walked_row : ℕ → ℕ → ℕ → ℕ → ℕ → ℕ → ℕ
  walked_row upper width lower rails count i =
      let r = node_row lower rails count (upper + i / 2 ^ count) (i % 2 ^ count) in
      cond (ltb (i / 2 ^ count) width) r 0
