-- Cut lists and the cells between cuts (document 01, "Cuts, cells, rows"). ws are the widths at the heights 0 to t.
-- Assumes nothing.
use Rattle.std.specs.Prelude.{ℕ, zero, suc, ◌+◌, ◌-◌, ◌<◌, List, [], ◌∷◌, ◌++◌, map}
use Rattle.sheet_spec.specs.Job.{Job, ins, outs}
use Rattle.stored_spec.specs.declared.Cell.{Cell}
use Rattle.stored_spec.specs.Cells.{cell}
use Rattle.stored_spec.specs.Rails.{rails_at}

-- a falling list of heights from h to 0
pub data CutList : ℕ → List ℕ → Type 0 where
  bottom : CutList 0 (0 ∷ [])
  next : {h g : ℕ} {l : List ℕ} → g < h → CutList g l → CutList h (h ∷ l)

-- every falling list from a height of at most h to 0; every one from h to 0
unfoldable pub lists_to : ℕ → List (List ℕ)
lists_to zero = (0 ∷ []) ∷ []
lists_to (suc h) = let ls = lists_to h in ls ++ map (λ l. suc h ∷ l) ls

unfoldable pub cut_lists : ℕ → List (List ℕ)
cut_lists zero = (0 ∷ []) ∷ []
cut_lists (suc h) = map (λ l. suc h ∷ l) (lists_to h)

-- between two neighbours in a cut list, a above b, lies one cell. Its inputs are its upper rails and its inputs from the order
unfoldable pub cell_inputs : Job → List ℕ → ℕ → ℕ → ℕ
cell_inputs j ws a b = rails_at j ws a + (ins j a - ins j b)

-- its outputs are its outputs from the order and its lower rails
unfoldable pub cell_outputs : Job → List ℕ → ℕ → ℕ → ℕ
cell_outputs j ws a b = outs j a - outs j b + rails_at j ws b

unfoldable pub cell_between : Job → List ℕ → ℕ → ℕ → Cell
cell_between j ws a b = cell (cell_inputs j ws a b) (cell_outputs j ws a b)

-- the cells of a cut list, top first
unfoldable pub cells_of : Job → List ℕ → List ℕ → List Cell
cells_of j ws [] = []
cells_of j ws (a ∷ []) = []
cells_of j ws (a ∷ b ∷ l) = cell_between j ws a b ∷ cells_of j ws (b ∷ l)
