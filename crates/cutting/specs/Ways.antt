-- The best way from each height down to 0, from those of the lower heights: fewest cells, then fewest bits, then the longest first cell.
-- Assumes nothing.
use Rattle.std.specs.Prelude.{ℕ, zero, suc, ◌+◌, ◌-◌, Bool, cond, ◌&&◌, ◌||◌, List, [], ◌∷◌, ◌++◌, Option, Some, None, map, eqb, ltb, get_or, replicate}
use Rattle.laws.specs.Lists.{puts}
use Rattle.sheet_spec.specs.Job.{Job}
use Rattle.stored_spec.specs.declared.Cell.{Cell}
use Rattle.stored_spec.specs.Cells.{cell, fits, bits}
use Rattle.cutting_spec.specs.Cuts.{cell_between}
use Rattle.cutting.specs.declared.choice.Way as declared

-- a way by its number of cuts, the bits of its cells and the next cut. No way has 0 cuts; the way from 0 has one, and no cell
pub record Way : Type 0 where
  pub cuts : ℕ
  pub bits : ℕ
  pub next : ℕ

abbrev pub no_way : Way
no_way = record { cuts = 0; bits = 0; next = 0 }

abbrev pub bottom_way : Way
bottom_way = record { cuts = 1; bits = 0; next = 0 }

-- a way of the code
abbrev pub way_given : Option declared.Way → Way
way_given None = no_way
way_given (Some w) = record { cuts = w.cells + 1; bits = w.bits; next = w.next }

unfoldable pub ways_given : List (Option declared.Way) → List Way
ways_given = map way_given

-- the next cuts of ways
unfoldable pub nexts_of : List (Option declared.Way) → List ℕ
nexts_of ws = map (λ w. w.next) (ways_given ws)

-- fewer cells than v, or as many and fewer bits; or v is none
unfoldable pub fewer : Way → Way → Bool
fewer w v = eqb v.cuts 0 || (ltb w.cuts v.cuts || eqb w.cuts v.cuts && ltb w.bits v.bits)

-- the cell c down to the cut g, then the way w from there
unfoldable pub through : Cell → ℕ → Way → Way
through c g w = record { cuts = w.cuts + 1; bits = bits c + w.bits; next = g }

-- the cell fits, and there is a way from its lower cut
unfoldable pub goes : ℕ → ℕ → Cell → Way → Bool
goes k l c w = fits k l c && ltb 0 w.cuts

-- the better of the way v and the one through g
unfoldable pub with_cut_at : ℕ → ℕ → Cell → ℕ → Way → Way → Way
with_cut_at k l c g w v = let u = through c g w in cond (goes k l c w && fewer u v) u v

-- C a b is the cell between the cuts a and b
module _ (C : ℕ → ℕ → Cell) (k l : ℕ) where
  -- the best way from h with its next cut below n; F gives the ways from the lower heights
  unfoldable pub way_below : (ℕ → Way) → ℕ → ℕ → Way
  way_below F h zero = no_way
  way_below F h (suc g) = with_cut_at k l (C h g) g (F g) (way_below F h g)

  -- the ways from the heights 0 to h; from h
  unfoldable pub ways : ℕ → List Way
  ways zero = bottom_way ∷ []
  ways (suc h) = let ws = ways h in ws ++ (way_below (λ g. get_or ws g no_way) (suc h) (suc h) ∷ [])

  unfoldable pub way_from : ℕ → Way
  way_from h = get_or (ways h) h no_way

-- the list that follows next cuts from h to 0, at most n of them
unfoldable pub falling : (ℕ → ℕ) → ℕ → ℕ → List ℕ
falling f zero h = h ∷ []
falling f (suc n) h = let l = falling f n (f h) in cond (eqb h 0) (h ∷ []) (h ∷ l)

-- the ways of a job
unfoldable pub job_way : Job → List ℕ → ℕ → Way
job_way j ws = way_from (cell_between j ws) j.K j.L

-- the same by the rails and the inputs at each height, rs and is
unfoldable pub list_cell : List ℕ → List ℕ → ℕ → ℕ → Cell
list_cell rs is a b =
    cell (get_or rs a 0 + (get_or is a 0 - get_or is b 0)) (a - get_or is a 0 - (b - get_or is b 0) + get_or rs b 0)

unfoldable pub list_way : ℕ → ℕ → List ℕ → List ℕ → ℕ → Way
list_way k l rs is = way_from (list_cell rs is) k l

-- its cuts, bits and next cut
abbrev pub cuts_from : ℕ → ℕ → List ℕ → List ℕ → ℕ → ℕ
cuts_from k l rs is h = (list_way k l rs is h).cuts

abbrev pub bits_from : ℕ → ℕ → List ℕ → List ℕ → ℕ → ℕ
bits_from k l rs is h = (list_way k l rs is h).bits

abbrev pub next_from : ℕ → ℕ → List ℕ → List ℕ → ℕ → ℕ
next_from k l rs is h = (list_way k l rs is h).next

-- an array of 21 ways with those from the heights 0 to t at its front, else of none
unfoldable pub ways_to : ℕ → ℕ → ℕ → List ℕ → List ℕ → List Way
ways_to t k l rs is = puts (t + 1) (list_way k l rs is) (replicate 21 no_way)
