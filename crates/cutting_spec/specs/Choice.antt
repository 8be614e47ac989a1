-- The chosen cut list and refusal 8 (document 01, "Cuts, cells, rows").
-- Assumes nothing.
use Rattle.std.specs.Prelude.{ℕ, ◌-◌, Bool, true, false, cond, ◌&&◌, ◌||◌, List, [], ◌∷◌, eqb, leb, ltb, length}
use Rattle.sheet_spec.specs.Job.{Job, t}
use Rattle.stored_spec.specs.Cells.{all_fit, row_total, bit_total}
use Rattle.cutting_spec.specs.Cuts.{cut_lists, cells_of}
use Rattle.sheet_spec.specs.Limits.{most_rows}

-- the list l has a longer first cell than k; or as long a one, and a longer second; and so on
unfoldable pub longer : List ℕ → List ℕ → Bool
longer (a ∷ b ∷ l) (c ∷ d ∷ k) = ltb (c - d) (a - b) || eqb (c - d) (a - b) && longer (b ∷ l) (d ∷ k)
longer [] k = false
longer (a ∷ []) k = false
longer (a ∷ b ∷ l) [] = false
longer (a ∷ b ∷ l) (c ∷ []) = false

module _ (j : Job) (ws : List ℕ) where
  -- it meets K, L and 32,768 rows
  unfoldable pub admissible : List ℕ → Bool
  admissible l = all_fit j.K j.L (cells_of j ws l) && leb (row_total (cells_of j ws l)) most_rows

  -- fewest cells, then fewest bits, then the longest first cell, then second, and so on
  unfoldable pub better : List ℕ → List ℕ → Bool
  better l k =
      let cl = length (cells_of j ws l) in
      let ck = length (cells_of j ws k) in
      let bl = bit_total (cells_of j ws l) in
      let bk = bit_total (cells_of j ws k) in
      ltb cl ck || eqb cl ck && (ltb bl bk || eqb bl bk && longer l k)

  -- the best admissible of the lists; [], which is no cut list, where none is admissible
  unfoldable pub is_none : List ℕ → Bool
  is_none [] = true
  is_none (a ∷ l) = false

  unfoldable pub best : List (List ℕ) → List ℕ
  best [] = []
  best (l ∷ ls) = let r = best ls in cond (admissible l && (is_none r || better l r)) l r

  -- the chosen list: the best of all
  unfoldable pub chosen : List ℕ
  chosen = best (cut_lists (t j))

  -- 8: no cut list meets K, L and 32,768 rows
  unfoldable pub refuse8 : Bool
  refuse8 = is_none chosen
