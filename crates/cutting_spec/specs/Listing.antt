-- The numbers that the listing prints, line by line (document 01, program `cascade_list`). ws are the widths at the heights 0 to t.
-- Assumes nothing.
use Rattle.std.specs.Prelude.{ℕ, zero, suc, List, [], ◌∷◌, ◌++◌, get_or, take, drop}
use Rattle.sheet_spec.specs.Job.{Job, t}
use Rattle.stored_spec.specs.Cells.{rows}
use Rattle.stored_spec.specs.Rails.{rails}
use Rattle.cutting_spec.specs.Cuts.{cell_between}
use Rattle.cutting_spec.specs.Compile.{Made}

-- per height "height width rails", for the heights below h, falling
unfoldable pub height_lines : List ℕ → ℕ → List (List ℕ)
height_lines ws zero = []
height_lines ws (suc h) = (h ∷ get_or ws h 0 ∷ rails (get_or ws h 0) ∷ []) ∷ height_lines ws h

-- then per cell top height, bottom height, rows
unfoldable pub cell_lines : Job → List ℕ → List ℕ → List ℕ → List (List ℕ)
cell_lines j ws [] bytes = []
cell_lines j ws (a ∷ []) bytes = []
cell_lines j ws (a ∷ b ∷ l) bytes =
    let r = rows (cell_between j ws a b) in
    (a ∷ b ∷ take r bytes) ∷ cell_lines j ws (b ∷ l) (drop r bytes)

unfoldable pub listing : Job → Made → List (List ℕ)
listing j c = height_lines c.widths (t j) ++ cell_lines j c.widths c.cuts c.rows
