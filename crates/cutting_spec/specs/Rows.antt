-- The row tables of a cut list (document 01, "Cuts, cells, rows"). f is the function after all merges, ls its layers, ws its widths.
-- Assumes nothing.
use Rattle.std.specs.Prelude.{ℕ, ◌+◌, ◌-◌, ◌*◌, ◌/◌, ◌%◌, ◌^◌, cond, List, [], ◌∷◌, ◌++◌, eqb, ltb, get_or}
use Rattle.laws.specs.Tests.{sum}
use Rattle.laws.specs.Lists.{tab}
use Rattle.laws.specs.Bits.{flag}
use Rattle.sheet_spec.specs.Job.{Job, ins, outs}
use Rattle.reduction_spec.specs.Columns.{entry, number_at, layer, width_in}
use Rattle.stored_spec.specs.Rails.{rails_at}
use Rattle.cutting_spec.specs.Cuts.{cell_inputs}

module _ (j : Job) (f : List ℕ) (ls : List (List ℕ)) (ws : List ℕ) where
  -- what the output with k outputs below it emits for the prefix p at the cut b, which lies below it: final d is emitted as 0
  unfoldable pub emitted : ℕ → ℕ → ℕ → ℕ
  emitted b p k = flag (eqb (entry j.n (ins j b) f p k 0) 1)

  -- row byte of the prefix p at the cut b: the cell's outputs, topmost most significant, then the lower rails in the lowest bits
  unfoldable pub row_of : ℕ → ℕ → ℕ → ℕ
  row_of a b p =
      sum (outs j a - outs j b) (λ i. emitted b p (outs j b + i) * 2 ^ (rails_at j ws b + i))
      + number_at j f (layer ls b) b p

  -- row address: upper rail word (a column number), then the cell's inputs, topmost variable most significant. Rows of unused rail words are 0
  unfoldable pub row : ℕ → ℕ → ℕ → ℕ
  row a b i =
      let size = 2 ^ (ins j a - ins j b) in
      let c = i / size in
      let r = row_of a b (get_or (layer ls a) c 0 * size + i % size) in
      cond (ltb c (width_in ls a)) r 0

  unfoldable pub cell_rows : ℕ → ℕ → List ℕ
  cell_rows a b = tab (2 ^ cell_inputs j ws a b) (row a b)

  -- cells follow each other, top first
  unfoldable pub cascade_rows : List ℕ → List ℕ
  cascade_rows [] = []
  cascade_rows (a ∷ []) = []
  cascade_rows (a ∷ b ∷ l) = cell_rows a b ++ cascade_rows (b ∷ l)
