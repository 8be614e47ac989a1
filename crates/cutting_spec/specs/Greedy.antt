-- Greedy cutting, each cell the longest (document 01, "What newcomers write"). ws are the widths at the heights 0 to t.
-- Assumes nothing.
use Rattle.std.specs.Prelude.{ℕ, zero, suc, cond, List, [], ◌∷◌, ltb}
use Rattle.laws.specs.Tests.{least}
use Rattle.sheet_spec.specs.Job.{Job, t}
use Rattle.stored_spec.specs.Cells.{fits}
use Rattle.cutting_spec.specs.Cuts.{cell_between}

-- the lower cut of the longest cell from the cut a: the lowest height b below a with which the cell between meets K and L; a where there is none
unfoldable pub greedy_next : Job → List ℕ → ℕ → ℕ
greedy_next j ws a = least a (λ b. fits j.K j.L (cell_between j ws a b))

-- the cuts from a on, each cell the longest, k cells at most; it ends where there is no cell
unfoldable pub greedy_from : Job → List ℕ → ℕ → ℕ → List ℕ
greedy_from j ws zero a = a ∷ []
greedy_from j ws (suc k) a =
    let b = greedy_next j ws a in
    let l = greedy_from j ws k b in
    cond (ltb b a) (a ∷ l) (a ∷ [])

unfoldable pub greedy : Job → List ℕ → List ℕ
greedy j ws = greedy_from j ws (t j) (t j)
