-- The parts of a compile as the code makes them, from the order and the widths at the heights below t.
-- Assumes nothing.
use Rattle.std.specs.Prelude.{ℕ, zero, suc, ◌+◌, ◌-◌, ◌*◌, ◌/◌, ◌%◌, ◌^◌, ◌≤◌, ◌<◌, Bool, cond, List, [], ◌∷◌, Result, Ok, Err, eqb, ltb, get_or, replicate}
use Rattle.laws.specs.Tests.{any, sum}
use Rattle.laws.specs.Lists.{puts, puts_at}
use Rattle.laws.specs.Bits.{flag}
use Rattle.refusals.specs.declared.Refusal.{Refusal}
use Rattle.refusals.specs.declared.Refusal.TheVariants.{NoCutList}
use Rattle.sheet_spec.specs.Limits.{largest_inputs, largest_outputs}
use Rattle.stored_spec.specs.Cells.{usable_rows}
use Rattle.cutting.specs.Levels.{rails_of, inputs_of, levelled}
use Rattle.cutting.specs.Ways.{list_cell, cuts_from, bits_from, next_from}
use Rattle.cutting.specs.RowWalks.{walked_row}
pub use Rattle.cutting.specs.declared.plan.Plan.{Plan}

-- ws are the widths at the heights below t; at t the width is 1
module _ (t : ℕ) (ws : List ℕ) where
  unfoldable pub width_up : ℕ → ℕ
  width_up h = cond (ltb h t) (get_or ws h 0) 1

  -- the node of column 0 at height h; below height 1 it is constant 1
  unfoldable pub first_in : ℕ → ℕ
  first_in h = cond (eqb h 0) 1 (2 + sum (t - h) (λ i. width_up (t - i)))

-- cut i of the list that follows the next cuts nx from t
unfoldable pub cut_in : List ℕ → ℕ → ℕ → ℕ
cut_in nx t zero = t
cut_in nx t (suc i) = get_or nx (cut_in nx t i) 0

-- rs and is are the rails and inputs at each height, cs the cuts, top first: the rows of cell i, and of the cells before it
module _ (rs is cs : List ℕ) where
  unfoldable pub rows_of : ℕ → ℕ
  rows_of i = usable_rows (list_cell rs is (get_or cs i 0) (get_or cs (i + 1) 0))

  unfoldable pub rows_to : ℕ → ℕ
  rows_to i = sum i rows_of

-- an array of 21 bytes with f 0, .., f (n - 1) at its front, else 0
unfoldable pub bytes21 : ℕ → (ℕ → ℕ) → List ℕ
bytes21 n f = puts n f (replicate 21 0)

unfoldable pub planned : ℕ → ℕ → ℕ → List ℕ → List ℕ → Plan
planned t k l order ws =
    let levels = levelled t order ws in
    let rs = rails_of levels in
    let is = inputs_of levels in
    let cells = cuts_from k l rs is t - 1 in
    let cs = bytes21 (cells + 1) (cut_in (bytes21 (t + 1) (next_from k l rs is)) t) in
    record { levels = levels; cuts = cs; cells = cells; bits = bits_from k l rs is t; rows = rows_to rs is cs cells }

-- a plan of no cells is none: there is no cut list
unfoldable pub listed : Plan → Result Plan Refusal
listed p = cond (eqb p.cells 0) (Err NoCutList) (Ok p)

-- g is one of the first n cuts
unfoldable pub is_cut : List ℕ → ℕ → ℕ → Bool
is_cut cs n g = any n (λ i. eqb g (get_or cs i 0))

-- record i of t
unfoldable pub record_in : ℕ → List ℕ → List ℕ → List ℕ → ℕ → ℕ → List ℕ
record_in t order rs cs n i =
    let g = t - suc i in
    get_or order i 0 ∷ flag (is_cut cs n g) ∷ cond (is_cut cs n g) (get_or rs g 0) 0 ∷ 0 ∷ []

-- byte i of rows, two bytes a row, low byte first
unfoldable pub row_byte : List ℕ → ℕ → ℕ
row_byte rows i = get_or rows (i / 2) 0 / 2 ^ (8 * (i % 2)) % 256

-- the rows of the cell between the cuts a and b by walks over the node words
module _ (t : ℕ) (words order ws rs is : List ℕ) where
  unfoldable pub row_between : ℕ → ℕ → ℕ → ℕ
  row_between a b x =
      walked_row words order a b (first_in t ws a) (width_up t ws a) (first_in t ws b) (get_or rs b 0) (get_or is a 0 - get_or is b 0) x

  -- what a cell needs to be written: its numbers are small, the rows of its columns are among its rows, and each row has 16 bits
  pub record Writable (a b : ℕ) : Type 0 where
    pub upper : a ≤ t
    pub lower : b ≤ t
    pub rails : get_or rs b 0 ≤ largest_outputs
    pub inputs : get_or is a 0 - get_or is b 0 ≤ largest_inputs
    pub nodes : first_in t ws a + width_up t ws a ≤ 65536
    pub columns : width_up t ws a * 2 ^ (get_or is a 0 - get_or is b 0) ≤ usable_rows (list_cell rs is a b)
    pub small : (x : ℕ) → x < usable_rows (list_cell rs is a b) → row_between a b x < 65536

  -- the list l after the rows of the first n cells of the cuts cs are stored one after another
  unfoldable pub rows_stored : List ℕ → ℕ → List ℕ → List ℕ
  rows_stored cs zero l = l
  rows_stored cs (suc i) l =
      puts_at (rows_to rs is cs i) (rows_of rs is cs i) (row_between (get_or cs i 0) (get_or cs (i + 1) 0)) (rows_stored cs i l)
