-- The stored form (document 01, "Cuts, cells, rows"): the records of a cut list as they are written, the cells that record bytes hold as they
-- are read, and well formed.
-- Assumes nothing.
use Rattle.std.specs.Prelude.{ℕ, zero, suc, ◌+◌, ◌-◌, ◌*◌, ◌/◌, ◌^◌, Bool, false, cond, ◌||◌, not, ◌&&◌, List, [], ◌∷◌, ◌++◌, eqb, leb, ltb, length, get_or}
use Rattle.laws.specs.Bits.{flag}
use Rattle.sheet_spec.specs.Job.{Job, t, var_at, is_input}
use Rattle.stored_spec.specs.Rails.{rails_at}
use Rattle.laws.specs.Tests.{every, sum, within}
use Rattle.sheet_spec.specs.Limits.{most_variables, largest_inputs, most_rows}
use Rattle.stored_spec.specs.Cells.{Cell, cell, rows, fits}
use Rattle.stored_spec.specs.RowBytes.{two_bytes, outputs_in, row_value, room}

abbrev pub member : ℕ → List ℕ → Bool
member x [] = false
member x (y ∷ l) = eqb x y || member x l

-- t records of 4 bytes, no header: variable byte; 1 if a cut lies directly below, else 0; rails at that cut, else 0; zero
unfoldable pub stored_to : Job → List ℕ → List ℕ → ℕ → List ℕ
stored_to j ws cuts zero = []
stored_to j ws cuts (suc h) =
    let cut = member h cuts in
    var_at j (suc h) ∷ flag cut ∷ cond cut (rails_at j ws h) 0 ∷ 0 ∷ stored_to j ws cuts h

unfoldable pub stored : Job → List ℕ → List ℕ → List ℕ
stored j ws cuts = stored_to j ws cuts (t j)

-- of record bytes R: the number of records, and of record i the variable, whether a cut lies below, the rails there, and the last byte
abbrev pub record_count : List ℕ → ℕ
record_count R = length R / 4

abbrev pub variable : List ℕ → ℕ → ℕ
variable R i = get_or R (i * 4) 0

abbrev pub cut_byte : List ℕ → ℕ → ℕ
cut_byte R i = get_or R (i * 4 + 1) 0

abbrev pub rail_byte : List ℕ → ℕ → ℕ
rail_byte R i = get_or R (i * 4 + 2) 0

abbrev pub last_byte : List ℕ → ℕ → ℕ
last_byte R i = get_or R (i * 4 + 3) 0

-- a stored cell: its inputs and its outputs from the order, topmost first, its upper rails and its lower rails
pub record StoredCell : Type 0 where
  pub ins : List ℕ
  pub outs : List ℕ
  pub upper : ℕ
  pub lower : ℕ

-- a reading of the records from the top: the cells ended, and of the cell begun its inputs, outputs and upper rails
pub record Reading : Type 0 where
  pub ended : List StoredCell
  pub ins : List ℕ
  pub outs : List ℕ
  pub upper : ℕ

abbrev pub appended : Bool → List ℕ → ℕ → List ℕ
appended b l v = cond b (l ++ (v ∷ [])) l

-- the reading with the variable v
unfoldable pub with_variable : Reading → ℕ → Reading
with_variable s v =
    record { ended = s.ended; ins = appended (is_input v) s.ins v; outs = appended (not (is_input v)) s.outs (v - 128); upper = s.upper }

-- the reading after a cut with r rails
unfoldable pub with_cut : Reading → ℕ → Reading
with_cut s r =
    record {
      ended = s.ended ++ (record { ins = s.ins; outs = s.outs; upper = s.upper; lower = r } ∷ []);
      ins = [];
      outs = [];
      upper = r;
    }

-- the reading after i records
unfoldable pub reading : List ℕ → ℕ → Reading
reading R zero = record { ended = []; ins = []; outs = []; upper = 0 }
reading R (suc i) =
    let s = with_variable (reading R i) (variable R i) in
    cond (eqb (cut_byte R i) 1) (with_cut s (rail_byte R i)) s

-- the cells of the records, top first
unfoldable pub stored_cells : List ℕ → List StoredCell
stored_cells R = (reading R (record_count R)).ended

unfoldable pub cell_count : List ℕ → ℕ
cell_count R = length (stored_cells R)

abbrev pub no_cell : StoredCell
no_cell = record { ins = []; outs = []; upper = 0; lower = 0 }

unfoldable pub cell_at : List ℕ → ℕ → StoredCell
cell_at R k = get_or (stored_cells R) k no_cell

-- its inputs and outputs, rails counted
unfoldable pub size_of : StoredCell → Cell
size_of c = cell (c.upper + length c.ins) (length c.outs + c.lower)

-- the rows of the cells before cell k; of all cells
unfoldable pub rows_before : List ℕ → ℕ → ℕ
rows_before R k = sum k (λ i. rows (size_of (cell_at R i)))

unfoldable pub row_count : List ℕ → ℕ
row_count R = rows_before R (cell_count R)

-- bytes as just said, inputs 0 to 11 and outputs 128 to 135 at most once each: of record i
unfoldable pub record_formed : List ℕ → ℕ → Bool
record_formed R i =
    (leb (variable R i) 11 || within 128 135 (variable R i)) && leb (cut_byte R i) 1
    && (eqb (cut_byte R i) 1 || eqb (rail_byte R i) 0)
    && eqb (last_byte R i) 0
    && every i (λ k. not (eqb (variable R k) (variable R i)))

-- in the form with z bytes a row
module _ (z : ℕ) where
  -- cells of at most 12 inputs, and of no more outputs than a row has bits
  unfoldable pub cell_formed_as : List ℕ → ℕ → Bool
  cell_formed_as R k = fits largest_inputs (outputs_in z) (size_of (cell_at R k))

  -- the records are well formed: 1 to 20 of them, a last cut with 0 rails, rows at most 32,768
  unfoldable pub records_formed_as : List ℕ → Bool
  records_formed_as R =
      eqb (length R) (record_count R * 4) && within 1 most_variables (record_count R) && every (record_count R) (record_formed R)
      && eqb (cut_byte R (record_count R - 1)) 1
      && eqb (rail_byte R (record_count R - 1)) 0
      && every (cell_count R) (cell_formed_as R)
      && leb (row_count R) most_rows

  -- each row of cell k is below 2^outputs
  unfoldable pub rows_formed_as : List ℕ → List ℕ → ℕ → Bool
  rows_formed_as R bytes k =
      let c = size_of (cell_at R k) in
      every (rows c) (λ i. ltb (row_value z bytes (rows_before R k + i)) (2 ^ c.outputs))

  -- well formed: as many row bytes as the rows take, and each row below 2^outputs
  unfoldable pub well_formed_as : List ℕ → List ℕ → Bool
  well_formed_as R bytes =
      records_formed_as R && eqb (length bytes) (room z (row_count R)) && every (cell_count R) (rows_formed_as R bytes)

-- in the form of today, with two bytes a row
abbrev pub cell_formed : List ℕ → ℕ → Bool
cell_formed R k = cell_formed_as two_bytes R k

abbrev pub records_formed : List ℕ → Bool
records_formed R = records_formed_as two_bytes R

abbrev pub well_formed : List ℕ → List ℕ → Bool
well_formed R bytes = well_formed_as two_bytes R bytes
