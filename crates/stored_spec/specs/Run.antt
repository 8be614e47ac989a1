-- Reading the rows of a stored cascade, cell after cell, for a word (document 01, "Cuts, cells, rows" and "The bank").
-- Outputs are a list of values, one for each output: 0 or 1 where it is set, else 2.
-- Assumes nothing.
use Rattle.std.specs.Prelude.{ℕ, zero, suc, ◌+◌, ◌*◌, ◌/◌, ◌%◌, ◌^◌, ◌≡◌, List, [], ◌∷◌, length, set, replicate}
use Rattle.laws.specs.Bits.{bit}
use Rattle.sheet_spec.specs.Limits.{most_outputs}
use Rattle.stored_spec.specs.RowBytes.{two_bytes, row_value}
use Rattle.stored_spec.specs.StoredForm.{StoredCell, cell_at, rows_before}

-- row address: the rail word r, then the cell's inputs in the word w, topmost variable most significant
unfoldable pub address : ℕ → List ℕ → ℕ → ℕ
address r [] w = r
address r (i ∷ is) w = address (r * 2 + bit w i) is w

-- the words w and v have the same bits at the inputs of the list
abbrev pub AgreeOn : List ℕ → ℕ → ℕ → Type 0
AgreeOn [] w v = Unit
AgreeOn (i ∷ is) w v = (bit w i ≡ bit v i) × AgreeOn is w v

-- where the row that cell k reads stands among the cascade's rows
unfoldable pub row_place : List ℕ → ℕ → ℕ → ℕ → ℕ
row_place R k r w = rows_before R k + address r (cell_at R k).ins w

-- the outputs after those of the list are set to the lowest bits of x, the topmost most significant
unfoldable pub set_outputs : List ℕ → List ℕ → ℕ → List ℕ
set_outputs outs [] x = outs
set_outputs outs (o ∷ os) x = set_outputs (set outs o (bit x (length os))) os x

-- the outputs after the row x is read: the cell's outputs become set to their bits of the row, and no others
unfoldable pub outputs_after : StoredCell → List ℕ → ℕ → List ℕ
outputs_after c outs x = set_outputs outs c.outs (x / 2 ^ c.lower)

-- the lower rails are the next rail word
unfoldable pub rail_after : StoredCell → ℕ → ℕ
rail_after c x = x % 2 ^ c.lower

abbrev pub unset : List ℕ
unset = replicate most_outputs 2

-- a run over the word w: the rail word and the outputs before cell k
pub record Running : Type 0 where
  pub rail : ℕ
  pub outputs : List ℕ

-- where the row at place p has the value f p
module _ (f : ℕ → ℕ) where
  unfoldable pub ran_one_by : List ℕ → ℕ → ℕ → Running → Running
  ran_one_by R w k s =
      let x = f (row_place R k s.rail w) in
      record { rail = rail_after (cell_at R k) x; outputs = outputs_after (cell_at R k) s.outputs x }

  unfoldable pub run_by : List ℕ → ℕ → ℕ → Running
  run_by R w zero = record { rail = 0; outputs = unset }
  run_by R w (suc k) = ran_one_by R w k (run_by R w k)

-- over row bytes
abbrev pub run : List ℕ → List ℕ → ℕ → ℕ → Running
run R bytes w k = run_by (row_value two_bytes bytes) R w k
