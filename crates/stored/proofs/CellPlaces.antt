-- Where the cells ended by a reading of stored records lie: one record more, and all records read.
-- Assumes nothing.
use mathlib.Core.Path.{◌≡◌, refl, sym, ◌∙◌, ap, ap₂}
use mathlib.Core.Bool.{Bool, true, false, cond, ◌&&◌, and-false}
use mathlib.Core.List.{List, [], ◌∷◌, ◌++◌}
use Prim.Native.Nat.{ℕ, zero, suc, ◌+◌, ◌-◌, ◌<◌, ◌≤◌}
use native.Mathlib.Numerals.{add-one}
use native.Mathlib.Omega.{arith}
use mir.Val.{bool_byte as from_bool}
use lib.Dec.{eqb, ltb}
use lib.ListN.{length, get_or}
use borrow.Author.Tests.{eq-eqb, ne_eqb, lt-ltb, le-ltb}
use Rattle.laws.specs.Tests.{sum}
use Rattle.laws.proofs.Cases.{last_or_below, cond_yes, cond_no, by_less, by_equal}
use Rattle.laws.proofs.Counts.{sum_ext}
use Rattle.sheet_spec.specs.Job.{is_input}
use Rattle.stored_spec.specs.declared.Cell.{Cell}
use Rattle.stored_spec.specs.Cells.{rows}
use Rattle.stored_spec.specs.StoredForm.{StoredCell, record_count, variable, cut_byte, rail_byte, with_variable, reading, stored_cells, cell_count, no_cell, cell_at, size_of, rows_before, records_formed}
use Rattle.stored.specs.Places.{CellPlace, variables_of, height_above, no_place, cell_place}
use Rattle.stored_spec.proofs.StoredCells.{begun_ins, begun_outs, more_ins, more_outs, cells_to, ended_cell, row_sum, ended-size, next-ins, next-outs, next-ended, longer, earlier, latest}

abbrev pub between : ℕ → ℕ → ℕ → ℕ → CellPlace
between a b r s = record { top = a; bottom = b; at = r; end = s }

pub between_same : {a b r s a' b' r' s' : ℕ} → a ≡ a' → b ≡ b' → r ≡ r' → s ≡ s' → between a b r s ≡ between a' b' r' s'
between_same {a} {b} {r} {s} {a'} {b'} {r'} {s'} p q e f =
    ap₂ (λ (x y : ℕ). between x y r s) p q ∙ ap₂ (λ (x y : ℕ). between a' b' x y) e f

-- of the cells in a list: the rows of cell k and its variables; the variables of all
abbrev rows_at : List StoredCell → ℕ → ℕ
rows_at cs k = rows (size_of (get_or cs k no_cell))

abbrev variables_at : List StoredCell → ℕ → ℕ
variables_at cs k = variables_of (get_or cs k no_cell)

unfoldable pub variable_sum : List StoredCell → ℕ
variable_sum cs = sum (length cs) (variables_at cs)

-- the place of cell k where all cells have n variables; no place where the list has no such cell
abbrev place : List StoredCell → ℕ → ℕ → CellPlace
place cs n k =
    between (n - sum k (variables_at cs)) (n - sum (suc k) (variables_at cs)) (sum k (rows_at cs)) (sum (suc k) (rows_at cs))

unfoldable pub place_in : List StoredCell → ℕ → ℕ → CellPlace
place_in cs n k = cond (ltb k (length cs)) (place cs n k) no_place

-- one cell more
module _ (cs : List StoredCell) (c : StoredCell) where
  abbrev more : List StoredCell
  more = cs ++ (c ∷ [])

  variables-same : (k : ℕ) → k ≤ length cs → sum k (variables_at more) ≡ sum k (variables_at cs)
  variables-same k l = sum_ext (variables_at more) (variables_at cs) k (λ i h. ap variables_of (earlier cs c i (omega arith)))

  rows_same : (k : ℕ) → k ≤ length cs → sum k (rows_at more) ≡ sum k (rows_at cs)
  rows_same k l = sum_ext (rows_at more) (rows_at cs) k (λ i h. ap (λ (d : StoredCell). rows (size_of d)) (earlier cs c i (omega arith)))

  variables_one_more : variable_sum more ≡ variable_sum cs + variables_of c
  unfolding variable_sum
  variables_one_more =
      ap (λ (n : ℕ). sum n (variables_at more)) (longer cs c) ∙ ap₂ ◌+◌ (variables-same (length cs) (omega arith)) (ap variables_of (latest cs c))

  module _ (n k : ℕ) where
    place_before : k < length cs → place more n k ≡ place cs n k
    place_before l =
        between_same (ap (λ (x : ℕ). n - x) (variables-same k (omega arith))) (ap (λ (x : ℕ). n - x) (variables-same (suc k) l))
        (rows_same k (omega arith)) (rows_same (suc k) l)

    place_last : length cs ≡ k → place more n k ≡ between (n - variable_sum cs) (n - variable_sum more) (row_sum cs) (row_sum more)
    unfolding variable_sum row_sum
    place_last e =
        let all : suc k ≡ length more = omega (arith, longer cs c) in
        between_same (ap (λ (x : ℕ). n - x) (variables-same k (omega arith) ∙ ap (λ (x : ℕ). sum x (variables_at cs)) (sym e)))
        (ap (λ (x : ℕ). n - sum x (variables_at more)) all) (rows_same k (omega arith) ∙ ap (λ (x : ℕ). sum x (rows_at cs)) (sym e))
        (ap (λ (x : ℕ). sum x (rows_at more)) all)

    place_one_more : place_in more n k
        ≡ cond (eqb (length cs) k) (between (n - variable_sum cs) (n - variable_sum more) (row_sum cs) (row_sum more)) (place_in cs n k)
    unfolding place_in
    place_one_more =
        by_equal (length cs) k
        (λ e.
        cond_yes (ltb k (length more)) _ _ (lt-ltb k (length more) (omega (arith, longer cs c))) ∙ place_last e
        ∙ sym (cond_yes (eqb (length cs) k) _ _ (eq-eqb (length cs) k e)))
        (λ e.
        by_less k (length cs)
        (λ l.
        cond_yes (ltb k (length more)) _ _ (lt-ltb k (length more) (omega (arith, longer cs c))) ∙ place_before l
        ∙ sym (cond_yes (ltb k (length cs)) _ _ (lt-ltb k (length cs) l)))
        (λ l.
        cond_no (ltb k (length more)) _ _ (le-ltb k (length more) (omega (arith, longer cs c)))
        ∙ sym (cond_no (ltb k (length cs)) _ _ (le-ltb k (length cs) l)))
        ∙ sym (cond_no (eqb (length cs) k) _ _ (ne_eqb (length cs) k e)))

counted : (b : Bool) (n m : ℕ) → cond b (n + 1) n + cond b m (m + 1) ≡ n + m + 1
counted true n m = omega arith
counted false n m = omega arith

-- one record more: variables and cells counted
module _ (R : List ℕ) (i : ℕ) where
  ended-variables : variables_of (ended_cell R i) ≡ more_ins R i + more_outs R i
  unfolding variables_of size_of with_variable
  ended-variables =
      let c = ended_cell R i in
      let a : (reading R i).upper + length c.ins ≡ (reading R i).upper + more_ins R i = ap (λ (d : Cell). d.inputs) (ended-size R i) in
      let b : length c.outs + rail_byte R i ≡ more_outs R i + rail_byte R i = ap (λ (d : Cell). d.outputs) (ended-size R i) in
      omega (arith, a, b)

  -- the variables of the cell that a cut would end
  begun-variables : variables_of (ended_cell R i) ≡ begun_ins R i + begun_outs R i + 1
  begun-variables = ended-variables ∙ counted (is_input (variable R i)) (begun_ins R i) (begun_outs R i)

  variables-next : variable_sum (cells_to R (i + 1)) + begun_ins R (i + 1) + begun_outs R (i + 1)
      ≡ variable_sum (cells_to R i) + begun_ins R i + begun_outs R i + 1
  variables-next =
      ap₂ (λ (x y : ℕ). x + y) (ap₂ (λ (cs : List StoredCell) (x : ℕ). variable_sum cs + x) (next-ended R i) (next-ins R i)) (next-outs R i)
      ∙ by (eqb (cut_byte R i) 1)
    where
      by : (b : Bool) → variable_sum (cond b (cells_to R i ++ (ended_cell R i ∷ [])) (cells_to R i)) + cond b 0 (more_ins R i) + cond b 0 (more_outs R i)
          ≡ variable_sum (cells_to R i) + begun_ins R i + begun_outs R i + 1
      by true = omega (arith, variables_one_more (cells_to R i) (ended_cell R i), begun-variables)
      by false = omega (arith, ended-variables, begun-variables)

  pub cells-next : length (cells_to R (i + 1)) ≡ length (cells_to R i) + cond (eqb (cut_byte R i) 1) 1 0
  cells-next = ap (λ (cs : List StoredCell). length cs) (next-ended R i) ∙ by (eqb (cut_byte R i) 1)
    where
      by : (b : Bool) → length (cond b (cells_to R i ++ (ended_cell R i ∷ [])) (cells_to R i)) ≡ length (cells_to R i) + cond b 1 0
      by true = omega (arith, longer (cells_to R i) (ended_cell R i))
      by false = omega arith

-- each record read has its variable in a cell ended or in the cell begun
variables-read : (R : List ℕ) (i : ℕ) → variable_sum (cells_to R i) + begun_ins R i + begun_outs R i ≡ i
unfolding variable_sum reading
variables-read R zero = refl
variables-read R (suc i) =
    rw (add-one i) at (variables-next R i) ∙ omega (arith, variables-read R i)

-- one record more: the heights beside a cell that its cut ends, and its place
module _ (R : List ℕ) (i n : ℕ) where
  ended_below : n - variable_sum (cells_to R i ++ (ended_cell R i ∷ [])) ≡ n - 1 - i
  ended_below = omega (arith, variables_one_more (cells_to R i) (ended_cell R i), begun-variables R i, variables-read R i)

  pub top_next : n - variable_sum (cells_to R (i + 1)) ≡ cond (eqb (cut_byte R i) 1) (n - 1 - i) (n - variable_sum (cells_to R i))
  top_next = ap (λ (cs : List StoredCell). n - variable_sum cs) (next-ended R i) ∙ by (eqb (cut_byte R i) 1)
    where
      by : (b : Bool) → n - variable_sum (cond b (cells_to R i ++ (ended_cell R i ∷ [])) (cells_to R i)) ≡ cond b (n - 1 - i) (n - variable_sum (cells_to R i))
      by true = ended_below
      by false = refl

  pub place_next : (k : ℕ) → place_in (cells_to R (i + 1)) n k
      ≡ cond (eqb (cut_byte R i) 1 && eqb (length (cells_to R i)) k)
      (between (n - variable_sum (cells_to R i)) (n - 1 - i) (row_sum (cells_to R i)) (row_sum (cells_to R (i + 1)))) (place_in (cells_to R i) n k)
  place_next k = rw (next-ended R i) (by (eqb (cut_byte R i) 1))
    where
      by : (b : Bool) → place_in (cond b (cells_to R i ++ (ended_cell R i ∷ [])) (cells_to R i)) n k
          ≡ cond (b && eqb (length (cells_to R i)) k)
          (between (n - variable_sum (cells_to R i)) (n - 1 - i) (row_sum (cells_to R i)) (row_sum (cond b (cells_to R i ++ (ended_cell R i ∷ [])) (cells_to R i))))
          (place_in (cells_to R i) n k)
      by true = rw (sym ended_below) (place_one_more (cells_to R i) (ended_cell R i) n k)
      by false = refl

-- a place once found stays
module _ (R : List ℕ) (m k : ℕ) where
  place_kept : (i : ℕ) → k < length (cells_to R i) → (k < length (cells_to R (i + 1))) × (place_in (cells_to R (i + 1)) m k ≡ place_in (cells_to R i) m k)
  place_kept i l =
      let other : (eqb (cut_byte R i) 1 && eqb (length (cells_to R i)) k) ≡ false =
      ap (λ (b : Bool). eqb (cut_byte R i) 1 && b) (ne_eqb (length (cells_to R i)) k (λ e. omega (arith, e, l))) ∙ and-false (eqb (cut_byte R i) 1)
      in
      (omega (arith, cells-next R i, l), place_next R i m k ∙ cond_no _ _ _ other)

  same : (i n : ℕ) → i ≡ n → k < length (cells_to R i) → (k < length (cells_to R n)) × (place_in (cells_to R n) m k ≡ place_in (cells_to R i) m k)
  same i n e h = rw (sym e) (h, refl)

  pub place_stays : (i n : ℕ) → i ≤ n → k < length (cells_to R i) → (k < length (cells_to R n)) × (place_in (cells_to R n) m k ≡ place_in (cells_to R i) m k)
  place_stays i zero l h = same i 0 (omega arith) h
  place_stays i (suc n) l h =
      last_or_below i (suc n) (omega arith) (λ e. same i (suc n) e h)
      (λ q.
      let p = place_stays i n (omega arith) h in
      let r = rw (add-one n) at (place_kept n p.0) in
      (r.0, r.1 ∙ p.1))

-- the heights and rows beside the cell that a cut below record i ends
module _ (R : List ℕ) (i n : ℕ) where
  pub top_below : eqb (cut_byte R i) 1 ≡ true → n - 1 - i ≡ n - variable_sum (cells_to R (i + 1))
  top_below e = sym (top_next R i n ∙ cond_yes _ _ _ e)

-- one turn of a loop over stored records that counts cells
pub from_cut : (b : Bool) → from_bool b ≡ cond b 1 0
from_cut true = refl
from_cut false = refl

pub turn-cells : (R : List ℕ) (i : ℕ) {m r : ℕ} → m ≡ length (cells_to R i) → r ≡ from_bool (eqb (cut_byte R i) 1) → m + r ≡ length (cells_to R (i + 1))
turn-cells R i p q = ap₂ (λ (x y : ℕ). x + y) p (q ∙ from_cut (eqb (cut_byte R i) 1)) ∙ sym (cells-next R i)

-- no record read; all records read
pub no_cells : (R : List ℕ) (n k : ℕ) → (length (cells_to R 0) ≡ 0) × (n - variable_sum (cells_to R 0) ≡ n) × (place_in (cells_to R 0) n k ≡ no_place)
unfolding variable_sum place_in reading
no_cells R n k = (refl, omega arith, cond_no (ltb k 0) _ _ (le-ltb k 0 (omega arith)))

pub place_all : (R : List ℕ) (k : ℕ) → records_formed R ≡ true → place_in (cells_to R (record_count R)) (record_count R) k ≡ cell_place R k
unfolding place_in cell_place height_above rows_before cell_count cell_at stored_cells
place_all R k e = rw e refl

pub begin_all : (R : List ℕ) (k : ℕ) → k < cell_count R → (place_in (cells_to R (record_count R)) (record_count R) k).at ≡ rows_before R k
unfolding place_in rows_before cell_count cell_at stored_cells
begin_all R k l = rw (lt-ltb k (length (cells_to R (record_count R))) l) refl

pub place_past : (R : List ℕ) (m k : ℕ) → length (cells_to R (record_count R)) ≤ k → no_place ≡ place_in (cells_to R (record_count R)) m k
unfolding place_in
place_past R m k l = sym (cond_no _ _ _ (le-ltb k (length (cells_to R (record_count R))) l))

pub place_none : (R : List ℕ) (k : ℕ) → records_formed R ≡ false → no_place ≡ cell_place R k
unfolding cell_place
place_none R k e = rw e refl
