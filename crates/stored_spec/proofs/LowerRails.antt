-- The lower rails of a cell of well formed records are inputs of the cell below it, and the last cell has none.
-- Assumes nothing.
use mathlib.Core.Path.{◌≡◌, sym, ◌∙◌, ap}
use mathlib.Core.Bool.{true}
use mathlib.Core.List.{List, [], ◌∷◌, ◌++◌}
use Prim.Native.Nat.{ℕ, suc, ◌+◌, ◌-◌, ◌<◌, ◌≤◌}
use native.Mathlib.Omega.{arith}
use lib.Dec.{eqb}
use lib.ListN.{length, get_or}
use lib.Seq.{get_or_at}
use borrow.Author.Tests.{eq-eqb}
use Rattle.laws.proofs.Cases.{by_less, cond_yes}
use Rattle.laws.proofs.Tests.{every_at}
use Rattle.stored_spec.specs.RowBytes.{two_bytes}
use Rattle.stored_spec.specs.StoredForm.{StoredCell, record_count, cut_byte, stored_cells, cell_count, no_cell, cell_at, size_of, cell_formed_as, records_formed}
use Rattle.stored_spec.proofs.CellSizes.{few-inputs}
use Rattle.stored_spec.proofs.FormedCells.{rails_follow}
use Rattle.stored_spec.proofs.StoredCells.{cells_to, ended_cell, next-ended, longer}
use Rattle.stored_spec.proofs.StoredParts.{records_have}

module _ (R : List ℕ) (formed : records_formed R ≡ true) where
  -- the last record ends the last cell
  last_lower : (k : ℕ) → suc k ≡ cell_count R → (cell_at R k).lower ≡ 0
  unfolding cell_at cell_count stored_cells
  last_lower k l =
      let have = records_have two_bytes R formed in
      let i = record_count R - 1 in
      let e : i + 1 ≡ record_count R = omega (arith, have.some) in
      let cells : cells_to R (record_count R) ≡ cells_to R i ++ (ended_cell R i ∷ []) =
      ap (cells_to R) (sym e) ∙ next-ended R i ∙ cond_yes (eqb (cut_byte R i) 1) _ _ (eq-eqb (cut_byte R i) 1 have.last) in
      let last : length (cells_to R i) ≡ k = omega (arith, l, ap (λ (cs : List StoredCell). length cs) cells, longer (cells_to R i) (ended_cell R i)) in
      ap (λ (cs : List StoredCell). (get_or cs k no_cell).lower) cells
      ∙ ap (λ (c : StoredCell). c.lower) (get_or_at (cells_to R i) (ended_cell R i) [] no_cell k last)
      ∙ have.ends

  pub inputs-few : (k : ℕ) → k < cell_count R → (cell_at R k).upper + length (cell_at R k).ins ≤ 12
  unfolding size_of cell_formed_as
  inputs-few k l = few-inputs (size_of (cell_at R k)) (every_at (cell_formed_as two_bytes R) (cell_count R) (records_have two_bytes R formed).cells k l)

  pub few-lower : (k : ℕ) → k < cell_count R → (cell_at R k).lower ≤ 12
  few-lower k l =
      by_less (suc k) (cell_count R) (λ h. omega (arith, rails_follow R formed k h, inputs-few (suc k) h))
      (λ h. let e : suc k ≡ cell_count R = omega arith in omega (arith, last_lower k e))
