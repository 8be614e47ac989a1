-- One record more of a walk over stored records, by the cell that its cut ends, if it has one.
-- Assumes nothing.
use mathlib.Core.Path.{◌≡◌, sym, ◌∙◌, ap, ap₂}
use mathlib.Core.Bool.{Bool, true, false, ◌&&◌, true≢false}
use mathlib.Core.List.{List}
use Prim.Native.Nat.{ℕ, zero, suc, ◌+◌, ◌*◌, ◌%◌, ◌^◌, ◌≤◌, ◌<◌}
use native.Mathlib.Numerals.{add-one}
use native.Mathlib.Omega.{arith}
use lib.Dec.{eqb}
use lib.Pow.{pow_mono}
use borrow.Author.Tests.{eqb-true}
use Rattle.std.specs.Prelude.{Option, Some, None}
use Rattle.laws.specs.Tests.{every}
use Rattle.laws.proofs.Cases.{last_or_below, no_test, cond_yes, cond_no, and_split}
use Rattle.sheet_spec.specs.Limits.{largest_inputs}
use Rattle.stored_spec.specs.declared.Cell.{Cell}
use Rattle.stored_spec.specs.Cells.{cell, fits}
use Rattle.stored_spec.specs.RowBytes.{outputs_in}
use Rattle.stored_spec.specs.StoredForm.{record_count, cut_byte, cell_count, row_count, cell_formed_as, rows_formed_as}
use Rattle.stored_spec.proofs.StoredCells.{cells_to, end_inputs, end_outputs, fit_all, row_sum, next-ended, fit_next, rows_next, fit_fewer, fit_all_lem, bytes_fit, rows_below, bytes_next, bytes-all, cell-small, cell_inside}
use Rattle.stored.specs.Walks.{ended}
use Rattle.stored.proofs.Given.{some_given, none_given}
use Rattle.stored.proofs.Walks.{ended_is}

-- the rows of a cell that fits, as the code makes them
pub cell_power : {n : ℕ} → n ≤ largest_inputs → (1 * 2 ^ n % 2 ^ 64 ≡ 2 ^ n) × (2 ^ n ≤ 4096)
cell_power h = let few = pow_mono h in (omega (arith, few), few)

-- where the rows of all cells are below, those of the cells ended are
pub bytes_fewer : (z : ℕ) (bytes R : List ℕ) (i n : ℕ) → i ≤ n → bytes_fit z bytes (cells_to R n) ≡ true → bytes_fit z bytes (cells_to R i) ≡ true
bytes_fewer z bytes R i zero l h = let e : i ≡ 0 = omega arith in ap (λ (k : ℕ). bytes_fit z bytes (cells_to R k)) e ∙ h
bytes_fewer z bytes R i (suc n) l h =
    last_or_below i (suc n) (omega arith) (λ e. ap (λ (k : ℕ). bytes_fit z bytes (cells_to R k)) e ∙ h)
    (λ k.
    let f = sym (bytes_next R n z bytes) ∙ ap (λ (q : ℕ). bytes_fit z bytes (cells_to R q)) (add-one n) ∙ h in
    bytes_fewer z bytes R i n (omega arith) (and_split (bytes_fit z bytes (cells_to R n)) _ f).0)

module _ (R : List ℕ) (i : ℕ) {r : Option Cell} (e : r ≡ ended R i) where
  -- no cut below the record
  module _ (n : r ≡ None) where
    cut_no : eqb (cut_byte R i) 1 ≡ false
    cut_no = none_given (eqb (cut_byte R i) 1) _ (sym n ∙ e ∙ ended_is R i)

    pub cells_same : cells_to R (i + 1) ≡ cells_to R i
    cells_same = next-ended R i ∙ cond_no (eqb (cut_byte R i) 1) _ _ cut_no

  -- a cut, which ends a cell
  module _ {c : Cell} (s : r ≡ Some c) where
    pub cut_there : (eqb (cut_byte R i) 1 ≡ true) × (c ≡ cell (end_inputs R i) (end_outputs R i))
    cut_there = some_given (eqb (cut_byte R i) 1) (sym s ∙ e ∙ ended_is R i)

    pub cut_yes : cut_byte R i ≡ 1
    cut_yes = eqb-true (cut_byte R i) 1 cut_there.0

    pub cell_is : c ≡ cell (end_inputs R i) (end_outputs R i)
    cell_is = cut_there.1

    pub cell_fit : (z : ℕ) → fit_all z (cells_to R (i + 1)) ≡ (fit_all z (cells_to R i) && fits largest_inputs (outputs_in z) c)
    cell_fit z =
        fit_next R i z ∙ ap (λ (b : Bool). fit_all z (cells_to R i) && b) (cond_yes (eqb (cut_byte R i) 1) _ true cut_there.0)
        ∙ ap (λ (d : Cell). fit_all z (cells_to R i) && fits largest_inputs (outputs_in z) d) (sym cell_is)

    pub cell_over : (z : ℕ) → i < record_count R → fits largest_inputs (outputs_in z) c ≡ false → every (cell_count R) (cell_formed_as z R) ≡ false
    cell_over z l f =
        no_test _
        (λ t.
        let all = fit_fewer z R (i + 1) (record_count R) (omega arith) (fit_all_lem z R ∙ t) in
        true≢false (sym (and_split (fit_all z (cells_to R i)) _ (sym (cell_fit z) ∙ all)).1 ∙ f))

    pub cell_counted : row_sum (cells_to R (i + 1)) ≡ row_sum (cells_to R i) + 2 ^ c.inputs
    cell_counted =
        rows_next R i ∙ ap (λ (x : ℕ). row_sum (cells_to R i) + x) (cond_yes (eqb (cut_byte R i) 1) _ 0 cut_there.0)
        ∙ ap (λ (d : Cell). row_sum (cells_to R i) + 2 ^ d.inputs) (sym cell_is)

    module _ (z : ℕ) (bytes : List ℕ) {at : ℕ} (a : at ≡ row_sum (cells_to R i)) where
      pub cell_bytes : bytes_fit z bytes (cells_to R (i + 1)) ≡ (bytes_fit z bytes (cells_to R i) && rows_below z bytes at (2 ^ c.inputs) (2 ^ c.outputs))
      cell_bytes =
          bytes_next R i z bytes ∙ ap (λ (b : Bool). bytes_fit z bytes (cells_to R i) && b) (cond_yes (eqb (cut_byte R i) 1) _ true cut_there.0)
          ∙ ap₂ (λ (n : ℕ) (d : Cell). bytes_fit z bytes (cells_to R i) && rows_below z bytes n (2 ^ d.inputs) (2 ^ d.outputs)) (sym a) (sym cell_is)

      pub bytes_over : i < record_count R → rows_below z bytes at (2 ^ c.inputs) (2 ^ c.outputs) ≡ false
          → every (cell_count R) (rows_formed_as z R bytes) ≡ false
      bytes_over l f =
          no_test _
          (λ t.
          let all = bytes_fewer z bytes R (i + 1) (record_count R) (omega arith) (bytes-all z bytes R ∙ t) in
          true≢false (sym (and_split (bytes_fit z bytes (cells_to R i)) _ (sym cell_bytes ∙ all)).1 ∙ f))

    -- where all cells fit, this one does, and its rows are among all
    module _ (z : ℕ) (fit : every (cell_count R) (cell_formed_as z R) ≡ true) (l : i < record_count R) where
      pub cell_few : (c.inputs ≤ largest_inputs) × (c.outputs ≤ outputs_in z)
      cell_few = rw cell_is (cell-small z R fit i l cut_yes)

      pub cell_among : row_sum (cells_to R i) + 2 ^ c.inputs ≤ row_count R
      cell_among = rw cell_is (cell_inside z R fit i l cut_yes)
