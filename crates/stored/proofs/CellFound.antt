-- A cell that a walk over stored records finds, and one that it does not find.
-- Assumes nothing.
use mathlib.Core.Path.{◌≡◌, refl, sym, ◌∙◌, ap}
use mathlib.Core.Bool.{Bool, true, false, cond, ◌&&◌}
use mathlib.Core.List.{List, [], ◌∷◌, ◌++◌}
use Prim.Native.Nat.{ℕ, zero, suc, ◌+◌, ◌-◌, ◌<◌, ◌≤◌}
use native.Mathlib.Numerals.{add-one}
use native.Mathlib.Omega.{arith}
use lib.Dec.{eqb}
use lib.ListN.{length, get_or}
use borrow.Author.Tests.{eq-eqb, eqb-false, lt-ltb, le-ltb}
use Rattle.std.specs.Prelude.{Option}
use Rattle.std.specs.Option.{is_some}
use Rattle.laws.proofs.Cases.{last_or_below, cond_yes, cond_no, and_join}
use Rattle.stored_spec.specs.declared.Cell.{Cell}
use Rattle.stored_spec.specs.StoredForm.{StoredCell, record_count, cut_byte, rail_byte, reading, with_variable, stored_cells, cell_count, no_cell, cell_at}
use Rattle.stored_spec.proofs.StoredCells.{cells_to, ended_cell, row_sum, next-ended, earlier, latest}
use Rattle.stored.specs.Reads.{CellRails, rails_in}
use Rattle.stored.specs.Walks.{ended}
use Rattle.stored.proofs.Given.{is_some_given}
use Rattle.stored.proofs.Walks.{ended_is}
use Rattle.stored.proofs.CellPlaces.{between, variable_sum, place_in, place_next, place_stays, cells-next}

abbrev pub rails : ℕ → ℕ → CellRails
rails a b = record { upper = a; lower = b }

-- a cell once read stays
module _ (R : List ℕ) (k : ℕ) where
  cell_kept : (i : ℕ) → k < length (cells_to R i) → get_or (cells_to R (i + 1)) k no_cell ≡ get_or (cells_to R i) k no_cell
  cell_kept i l = ap (λ (cs : List StoredCell). get_or cs k no_cell) (next-ended R i) ∙ by (eqb (cut_byte R i) 1)
    where
      by : (b : Bool) → get_or (cond b (cells_to R i ++ (ended_cell R i ∷ [])) (cells_to R i)) k no_cell ≡ get_or (cells_to R i) k no_cell
      by true = earlier (cells_to R i) (ended_cell R i) k l
      by false = refl

  cell_stays : (i n : ℕ) → i ≤ n → k < length (cells_to R i) → get_or (cells_to R n) k no_cell ≡ get_or (cells_to R i) k no_cell
  cell_stays i zero l h = let e : 0 ≡ i = omega arith in ap (λ (j : ℕ). get_or (cells_to R j) k no_cell) e
  cell_stays i (suc n) l h =
      last_or_below i (suc n) (omega arith) (λ e. ap (λ (j : ℕ). get_or (cells_to R j) k no_cell) (sym e))
      (λ q. rw (add-one n) at (cell_kept n (place_stays R 0 k i n (omega arith) h).0) ∙ cell_stays i n (omega arith) h)

-- cell k, which a cut below record i ends
module _ (R : List ℕ) (i k : ℕ) (cut : eqb (cut_byte R i) 1 ≡ true) (here : length (cells_to R i) ≡ k) (l : i < record_count R) where
  there_next : k < length (cells_to R (i + 1))
  there_next = let one = cells-next R i ∙ ap (λ (b : Bool). length (cells_to R i) + cond b 1 0) cut in omega (arith, one)

  cell_next : get_or (cells_to R (i + 1)) k no_cell ≡ ended_cell R i
  cell_next =
      ap (λ (cs : List StoredCell). get_or cs k no_cell) (next-ended R i ∙ cond_yes _ _ _ cut)
      ∙ ap (λ (j : ℕ). get_or (cells_to R i ++ (ended_cell R i ∷ [])) j no_cell) (sym here) ∙ latest (cells_to R i) (ended_cell R i)

  cell_found : cell_at R k ≡ ended_cell R i
  unfolding cell_at stored_cells
  cell_found = cell_stays R k (i + 1) (record_count R) (omega arith) there_next ∙ cell_next

  there_all : k < cell_count R
  unfolding cell_count stored_cells
  there_all = (place_stays R 0 k (i + 1) (record_count R) (omega arith) there_next).0

  pub rails_found : rails (reading R i).upper (rail_byte R i) ≡ rails_in R k
  unfolding rails_in with_variable
  rails_found =
      sym
      (cond_yes _ _ _ (lt-ltb k (cell_count R) there_all)
      ∙ ap (λ (c : StoredCell). rails c.upper c.lower) cell_found)

  pub place_found : (m : ℕ) → between (m - variable_sum (cells_to R i)) (m - 1 - i) (row_sum (cells_to R i)) (row_sum (cells_to R (i + 1)))
      ≡ place_in (cells_to R (record_count R)) m k
  place_found m =
      sym
      ((place_stays R m k (i + 1) (record_count R) (omega arith) there_next).1 ∙ place_next R i m k
      ∙ cond_yes _ _ _ (and_join cut (eq-eqb (length (cells_to R i)) k here)))

module _ (R : List ℕ) (i k : ℕ) where
  -- not the cell that is sought, or no cut
  pub not_yet : (b : Bool) → eqb (cut_byte R i) 1 ≡ b → (b && eqb (length (cells_to R i)) k) ≡ false → length (cells_to R i) ≤ k → length (cells_to R (i + 1)) ≤ k
  not_yet true e n l =
      let one = cells-next R i ∙ ap (λ (b : Bool). length (cells_to R i) + cond b 1 0) e in
      omega (arith, one, eqb-false (length (cells_to R i)) k n)
  not_yet false e n l =
      let none = cells-next R i ∙ ap (λ (b : Bool). length (cells_to R i) + cond b 1 0) e in
      omega (arith, none)

  pub some_is : {r : Option Cell} → r ≡ ended R i → is_some r ≡ eqb (cut_byte R i) 1
  some_is e = ap is_some (e ∙ ended_is R i) ∙ is_some_given _ _

pub rails_none : (R : List ℕ) (k : ℕ) → length (cells_to R (record_count R)) ≤ k → rails 0 0 ≡ rails_in R k
unfolding rails_in cell_count stored_cells
rails_none R k l = sym (cond_no _ _ _ (le-ltb k (length (cells_to R (record_count R))) l))

pub rails_there : (R : List ℕ) (k : ℕ) → k < cell_count R → rails_in R k ≡ rails (cell_at R k).upper (cell_at R k).lower
unfolding rails_in
rails_there R k l = cond_yes _ _ _ (lt-ltb k (cell_count R) l)
