-- What a reading of stored records holds of cell k: one record more, all records read, and what a cell that there is has.
-- Assumes nothing.
use mathlib.Core.Path.{◌≡◌, refl, sym, ◌∙◌, ap, ap₂}
use mathlib.Core.Bool.{Bool, true, false, cond, not, ◌&&◌}
use mathlib.Core.List.{List, [], ◌∷◌, ◌++◌}
use Prim.Native.Nat.{ℕ, zero, suc, ◌+◌, ◌-◌, ◌^◌, ◌≤◌, ◌<◌}
use native.Mathlib.Numerals.{add-one}
use native.Mathlib.Omega.{arith}
use mir.Val.{bool_byte as from_bool}
use lib.Dec.{eqb, leb, ltb, eqb-zero-suc, eqb-suc-suc}
use lib.ListN.{length, get_or, get_or-append}
use lib.Seq.{append_snoc, get_or-append-add}
use borrow.Author.Tests.{eq-eqb, ne_eqb, leb-true, le-leb, ltb-true, lt-ltb, le-ltb}
use Rattle.laws.specs.Tests.{every}
use Rattle.laws.proofs.Cases.{by_less, by_equal, cond_yes, cond_no, and_split, and_join, and_left_no}
use Rattle.laws.proofs.Tests.{every_at}
use Rattle.laws.proofs.Counts.{sum-le, sum_fixed}
use Rattle.sheet_spec.specs.Job.{is_input}
use Rattle.sheet_spec.specs.Limits.{largest_inputs, largest_outputs}
use Rattle.stored_spec.specs.RowBytes.{two_bytes}
use Rattle.stored_spec.specs.Cells.{fits, rows}
use Rattle.stored_spec.specs.StoredForm.{StoredCell, Reading, record_count, variable, cut_byte, rail_byte, appended, with_variable, with_cut, reading, stored_cells, cell_count, no_cell, cell_at, size_of, rows_before, row_count, cell_formed, cell_formed_as, records_formed}
use Rattle.stored_spec.specs.Run.{address, row_place, outputs_after}
use Rattle.stored.specs.Reads.{has_cell, cells_fit, cells_fit_as, rows_counted, cell_rails, row_read, outputs_read}
use Rattle.stored_spec.proofs.CellSizes.{few-inputs, few-outputs, few-rows}
use Rattle.stored_spec.proofs.StoredCells.{cells_to, ended_cell}
use Rattle.stored_spec.proofs.StoredParts.{RecordsHave, records_have}
use Rattle.stored.proofs.CellPlaces.{turn-cells}

-- the cell begun by a reading
abbrev begun_by : Reading → StoredCell
begun_by s = record { ins = s.ins; outs = s.outs; upper = s.upper; lower = 0 }

-- what the first i records hold of cell k
unfoldable pub part_to : List ℕ → ℕ → ℕ → StoredCell
part_to R i k = get_or (cells_to R i ++ (begun_by (reading R i) ∷ [])) k no_cell

same_eqb : (a b c d : ℕ) → (c ≡ d → a ≡ b) → (a ≡ b → c ≡ d) → eqb a b ≡ eqb c d
same_eqb a b c d f g =
    by_equal c d (λ e. eq-eqb a b (f e) ∙ sym (eq-eqb c d e)) (λ e. ne_eqb a b (λ h. e (g h)) ∙ sym (ne_eqb c d e))

past : (cs rest : List StoredCell) (k : ℕ) → length cs ≤ k → get_or (cs ++ rest) k no_cell ≡ get_or rest (k - length cs) no_cell
past cs rest k l =
    let e : k ≡ length cs + (k - length cs) = omega arith in
    ap (λ (n : ℕ). get_or (cs ++ rest) n no_cell) e ∙ get_or-append-add cs rest (k - length cs) no_cell

module _ (R : List ℕ) (i : ℕ) where
  -- a cell with record i: whether a cut lies below, whether it is the cell begun, whether it is the one after
  abbrev cell_with : Bool → Bool → Bool → StoredCell → StoredCell
  cell_with cut here next c =
      record {
        ins = appended (here && is_input (variable R i)) c.ins (variable R i);
        outs = appended (here && not (is_input (variable R i))) c.outs (variable R i - 128);
        upper = cond (cut && next) (rail_byte R i) c.upper;
        lower = cond (cut && here) (rail_byte R i) c.lower;
      }

  untouched : (cut : Bool) (c : StoredCell) → cell_with cut false false c ≡ c
  untouched true c = refl
  untouched false c = refl

  -- the reading with record i, and its cells from the one begun on
  abbrev next_reading : Bool → Reading
  next_reading cut = let s = with_variable (reading R i) (variable R i) in cond cut (with_cut s (rail_byte R i)) s

  abbrev from_begun : Bool → List StoredCell
  from_begun cut =
      cond cut (ended_cell R i ∷ (record { ins = []; outs = []; upper = rail_byte R i; lower = 0 }) ∷ [])
      (begun_by (with_variable (reading R i) (variable R i)) ∷ [])

  cells_later : cells_to R (i + 1) ++ (begun_by (reading R (i + 1)) ∷ []) ≡ cells_to R i ++ from_begun (eqb (cut_byte R i) 1)
  unfolding reading with_variable with_cut
  cells_later = rw (add-one i) (by (eqb (cut_byte R i) 1))
    where
      by : (cut : Bool) → (next_reading cut).ended ++ (begun_by (next_reading cut) ∷ []) ≡ cells_to R i ++ from_begun cut
      by true = append_snoc (cells_to R i) (ended_cell R i) _
      by false = refl

  later : (cut : Bool) (j : ℕ) → get_or (from_begun cut) j no_cell ≡ cell_with cut (eqb 0 j) (eqb 1 j) (get_or (begun_by (reading R i) ∷ []) j no_cell)
  unfolding with_variable
  later true zero = refl
  later false zero = refl
  later true (suc zero) = refl
  later false (suc zero) = refl
  later true (suc (suc j)) = rw (eqb-zero-suc (suc j), eqb-suc-suc 0 (suc j), eqb-zero-suc j) refl
  later false (suc (suc j)) = rw (eqb-zero-suc (suc j)) refl

  module _ (k : ℕ) where
    at : (cs : List StoredCell) (cut : Bool) → get_or (cs ++ from_begun cut) k no_cell
        ≡ cell_with cut (eqb (length cs) k) (eqb (length cs + 1) k) (get_or (cs ++ (begun_by (reading R i) ∷ [])) k no_cell)
    at cs cut =
        let c = get_or (cs ++ (begun_by (reading R i) ∷ [])) k no_cell in
        by_less k (length cs)
        (λ l.
        get_or-append cs (from_begun cut) no_cell k l ∙ sym (get_or-append cs (begun_by (reading R i) ∷ []) no_cell k l) ∙ sym (untouched cut c)
        ∙ ap₂ (λ (x y : Bool). cell_with cut x y c) (sym (ne_eqb (length cs) k (λ e. omega arith))) (sym (ne_eqb (length cs + 1) k (λ e. omega arith))))
        (λ l.
        past cs (from_begun cut) k l ∙ later cut (k - length cs)
        ∙ ap₂ (λ (x y : Bool). cell_with cut x y (get_or (begun_by (reading R i) ∷ []) (k - length cs) no_cell))
        (sym (same_eqb (length cs) k 0 (k - length cs) (λ e. omega arith) (λ e. omega arith)))
        (sym (same_eqb (length cs + 1) k 1 (k - length cs) (λ e. omega arith) (λ e. omega arith)))
        ∙ ap (λ (d : StoredCell). cell_with cut (eqb (length cs) k) (eqb (length cs + 1) k) d) (sym (past cs (begun_by (reading R i) ∷ []) k l)))

    part_next : part_to R (i + 1) k ≡ cell_with (eqb (cut_byte R i) 1) (eqb (length (cells_to R i)) k) (eqb (length (cells_to R i) + 1) k) (part_to R i k)
    unfolding part_to
    part_next = ap (λ (cs : List StoredCell). get_or cs k no_cell) cells_later ∙ at (cells_to R i) (eqb (cut_byte R i) 1)

    -- one turn of a loop over stored records that seeks cell k
    module _ {cell : ℕ} (here : cell ≡ length (cells_to R i)) where
      pub turn-ins : {v : ℕ} → v ≡ variable R i → (part_to R (i + 1) k).ins ≡ appended (eqb cell k && ltb v 128) (part_to R i k).ins v
      turn-ins p =
          ap (λ (c : StoredCell). c.ins) part_next
          ∙ ap₂ (λ (n x : ℕ). appended (eqb n k && ltb x 128) (part_to R i k).ins x) (sym here) (sym p)

      pub turn-outs : {v : ℕ} → v ≡ variable R i → (part_to R (i + 1) k).outs ≡ appended (eqb cell k && not (ltb v 128)) (part_to R i k).outs (v - 128)
      turn-outs p =
          ap (λ (c : StoredCell). c.outs) part_next
          ∙ ap₂ (λ (n x : ℕ). appended (eqb n k && not (ltb x 128)) (part_to R i k).outs (x - 128)) (sym here) (sym p)

-- no record read; all records read
pub part_none : (R : List ℕ) (k : ℕ) → part_to R 0 k ≡ no_cell
unfolding part_to reading
part_none R zero = refl
part_none R (suc k) = refl

pub cells-none : (R : List ℕ) → 0 ≡ length (cells_to R 0)
unfolding reading
cells-none R = refl

pub cells-all : (R : List ℕ) → length (cells_to R (record_count R)) ≡ cell_count R
unfolding cell_count stored_cells
cells-all R = refl

part_all : (R : List ℕ) (k : ℕ) → k < cell_count R → part_to R (record_count R) k ≡ cell_at R k
unfolding part_to cell_count cell_at stored_cells
part_all R k l = get_or-append (cells_to R (record_count R)) _ no_cell k l

-- no more cells than records
pub one_cell : (b : Bool) → from_bool b ≤ 1
one_cell true = omega arith
one_cell false = omega arith

pub cells-few : (R : List ℕ) (i : ℕ) → length (cells_to R i) ≤ i
cells-few R zero = omega (arith, cells-none R)
cells-few R (suc i) =
    let n = turn-cells R i {m = length (cells_to R i)} {r = from_bool (eqb (cut_byte R i) 1)} refl refl in
    let e = ap (λ (j : ℕ). length (cells_to R j)) (add-one i) in
    omega (arith, n, e, one_cell (eqb (cut_byte R i) 1), cells-few R i)

pub few-cells : (R : List ℕ) (i : ℕ) {cell r : ℕ} → cell ≡ length (cells_to R i) → r ≡ from_bool (eqb (cut_byte R i) 1) → cell + r ≤ i + 1
few-cells R i p q = omega (arith, p, q, one_cell (eqb (cut_byte R i) 1), cells-few R i)

-- rows counted, where the cells fit
pub formed_fit : (R : List ℕ) → records_formed R ≡ true → cells_fit R ≡ true
unfolding cells_fit_as
formed_fit R e = let h = records_have two_bytes R e in and_join (le-leb (length R) 80 (omega (arith, h.whole, h.few))) h.cells

pub fit_parts : (R : List ℕ) → cells_fit R ≡ true → (length R ≤ 80) × (every (cell_count R) (cell_formed R) ≡ true)
unfolding cells_fit_as
fit_parts R e =
    let h = and_split (leb (length R) 80) (every (cell_count R) (cell_formed R)) e in
    (leb-true (length R) 80 h.0, h.1)

pub rows_counted_lem : (R : List ℕ) → cells_fit R ≡ true → row_count R ≡ rows_counted R
unfolding rows_counted
rows_counted_lem R e = sym (cond_yes (cells_fit R) (row_count R) 0 e)

module _ (R : List ℕ) (k : ℕ) where
  -- cell k has rails that are told; its rows can be counted
  abbrev pub rails_told : Bool
  rails_told = leb (length R) 80 && ltb k (cell_count R)

  abbrev pub rows_told : Bool
  rows_told = cells_fit R && ltb k (cell_count R)

  -- no cell k
  pub no_row : rows_told ≡ false → (r w : ℕ) → 0 ≡ row_read R k r w
  unfolding row_read
  no_row e r w = sym (cond_no (rows_told && ltb r (2 ^ (cell_at R k).upper)) _ 0 (and_left_no rows_told _ e))

  pub no_outputs : has_cell R k ≡ false → (x : ℕ) (outs : List ℕ) → outs ≡ outputs_read R k x outs
  unfolding outputs_read
  no_outputs e x outs = sym (cond_no (has_cell R k) _ outs e)

  -- its rails
  module _ (e : rails_told ≡ true) where
    pub some-rails : record { upper = (cell_at R k).upper; lower = (cell_at R k).lower } ≡ cell_rails R k
    unfolding cell_rails
    some-rails = sym (cond_yes rails_told _ _ e)

  pub whole_part : k < cell_count R → part_to R (record_count R) k ≡ cell_at R k
  whole_part = part_all R k

  -- its rows
  module _ (e : rows_told ≡ true) where
    told_parts : (cells_fit R ≡ true) × (ltb k (cell_count R) ≡ true)
    told_parts = and_split (cells_fit R) (ltb k (cell_count R)) e

    pub cells_told : (length R ≤ 80) × (every (cell_count R) (cell_formed R) ≡ true)
    cells_told = fit_parts R told_parts.0

    pub cell-told : k < cell_count R
    cell-told = ltb-true k (cell_count R) told_parts.1

    pub rails-told : rails_told ≡ true
    rails-told = and_join (le-leb (length R) 80 cells_told.0) told_parts.1

    fits_at_lem : (i : ℕ) → i < cell_count R → fits largest_inputs largest_outputs (size_of (cell_at R i)) ≡ true
    unfolding cell_formed_as
    fits_at_lem = every_at (cell_formed R) (cell_count R) cells_told.1

    pub few-rails : (cell_at R k).upper ≤ largest_inputs
    unfolding size_of
    few-rails = omega (arith, few-inputs (size_of (cell_at R k)) (fits_at_lem k cell-told))

    pub few-outs : length (cell_at R k).outs + (cell_at R k).lower ≤ largest_outputs
    unfolding size_of
    few-outs = few-outputs (size_of (cell_at R k)) (fits_at_lem k cell-told)

    pub few_before : rows_before R k ≤ 81920
    unfolding rows_before rows
    few_before =
        let cells = cells-few R (record_count R) in
        let h =
        sum-le (λ i. rows (size_of (cell_at R i))) (λ i. 4096) k
        (λ i l. few-rows (size_of (cell_at R i)) (fits_at_lem i (omega (arith, l, cell-told))))
        in
        omega (arith, h, sum_fixed k 4096, cell-told, cells-all R, cells, cells_told.0)

    pub some-row : (r w : ℕ) → r < 2 ^ (cell_at R k).upper → rows_before R k + address r (cell_at R k).ins w ≡ row_read R k r w
    unfolding row_read row_place
    some-row r w l =
        sym (cond_yes (rows_told && ltb r (2 ^ (cell_at R k).upper)) (row_place R k r w) 0 (and_join e (lt-ltb r (2 ^ (cell_at R k).upper) l)))

    pub no_rail_word : (r w : ℕ) → 2 ^ (cell_at R k).upper ≤ r → 0 ≡ row_read R k r w
    unfolding row_read
    no_rail_word r w l =
        sym (cond_no (rows_told && ltb r (2 ^ (cell_at R k).upper)) (row_place R k r w) 0 (ap₂ ◌&&◌ e (le-ltb r (2 ^ (cell_at R k).upper) l)))

  -- a cell of well formed records
  module _ (e : has_cell R k ≡ true) where
    has_parts : (records_formed R ≡ true) × (ltb k (cell_count R) ≡ true)
    unfolding has_cell
    has_parts = and_split (records_formed R) (ltb k (cell_count R)) e

    pub rows_told_lem : rows_told ≡ true
    rows_told_lem = and_join (formed_fit R has_parts.0) has_parts.1

    pub cell_there : k < cell_count R
    cell_there = ltb-true k (cell_count R) has_parts.1

    pub records_there : RecordsHave two_bytes R
    records_there = records_have two_bytes R has_parts.0

    pub some-outputs : (x : ℕ) (outs : List ℕ) → outputs_after (cell_at R k) outs x ≡ outputs_read R k x outs
    unfolding outputs_read
    some-outputs x outs = sym (cond_yes (has_cell R k) (outputs_after (cell_at R k) outs x) outs e)
