-- The records of a cell: where they begin, and that a cell that has ended stays as it is.
-- Assumes nothing.
use mathlib.Core.Path.{◌≡◌, refl, sym, ◌∙◌, ap, subst}
use mathlib.Core.Bool.{Bool, true, false, cond}
use mathlib.Core.List.{List, [], ◌∷◌, ◌++◌}
use Prim.Native.Nat.{ℕ, zero, suc, ◌+◌, ◌≤◌, ◌<◌}
use native.Mathlib.Numerals.{add-one}
use native.Mathlib.Omega.{arith}
use lib.Dec.{eqb}
use lib.ListN.{length, get_or, get_or-append}
use lib.Seq.{get_or_at}
use borrow.Author.Tests.{eqb-true, eq-eqb, lt-ltb}
use Rattle.laws.proofs.Cases.{by_test, last_or_below, and_join, cond_yes, cond_no, cond_both}
use Rattle.stored_spec.specs.StoredForm.{StoredCell, Reading, record_count, variable, cut_byte, rail_byte, with_variable, with_cut, reading, stored_cells, cell_count, no_cell, cell_at, records_formed}
use Rattle.stored.specs.Reads.{has_cell}
use Rattle.stored_spec.proofs.StoredCells.{cells_to, ended_cell, next-ended, longer, earlier, latest}
use Rattle.stored.proofs.CellReads.{part_to}
use Rattle.evaluation.specs.BegunCell.{ended_by, start_of}

module _ (R : List ℕ) where
  cells_cut : (i : ℕ) → cut_byte R i ≡ 1 → cells_to R (suc i) ≡ cells_to R i ++ (ended_cell R i ∷ [])
  cells_cut i e = ap (cells_to R) (sym (add-one i)) ∙ next-ended R i ∙ cond_yes (eqb (cut_byte R i) 1) _ _ (eq-eqb (cut_byte R i) 1 e)

  cells_uncut : (i : ℕ) → eqb (cut_byte R i) 1 ≡ false → cells_to R (suc i) ≡ cells_to R i
  cells_uncut i e = ap (cells_to R) (sym (add-one i)) ∙ next-ended R i ∙ cond_no (eqb (cut_byte R i) 1) _ _ e

  -- the cell begun after i records begins at record start_of R i
  pub start_le : (i : ℕ) → start_of R i ≤ i
  unfolding start_of
  start_le zero = omega arith
  start_le (suc i) = cond_both (λ (n : ℕ). n ≤ suc i) (eqb (cut_byte R i) 1) (omega arith) (omega (arith, start_le i))

  pub same-cells : (i j : ℕ) → start_of R i ≤ j → j ≤ i → length (cells_to R j) ≡ length (cells_to R i)
  unfolding start_of
  same-cells zero j l m = let e : j ≡ 0 = omega arith in ap (λ (n : ℕ). length (cells_to R n)) e
  same-cells (suc i) j l m =
      by_test (eqb (cut_byte R i) 1)
      (λ p.
      let f = sym (cond_yes (eqb (cut_byte R i) 1) (suc i) (start_of R i) p) in
      let e : j ≡ suc i = omega (arith, f, l, m) in
      ap (λ (n : ℕ). length (cells_to R n)) e)
      (λ p.
      last_or_below j (suc i) (omega arith) (λ e. ap (λ (n : ℕ). length (cells_to R n)) e)
      (λ h.
      let f = sym (cond_no (eqb (cut_byte R i) 1) (suc i) (start_of R i) p) in
      same-cells i j (omega (arith, f, l)) (omega arith) ∙ ap (λ (cs : List StoredCell). length cs) (sym (cells_uncut i p))))

  abbrev after : Bool → ℕ → Reading
  after b i = let s = with_variable (reading R i) (variable R i) in cond b (with_cut s (rail_byte R i)) s

  none-begun : (i : ℕ) → (reading R (start_of R i)).outs ≡ []
  unfolding start_of reading with_cut
  none-begun zero = refl
  none-begun (suc i) =
      by_test (eqb (cut_byte R i) 1)
      (λ p.
      ap (λ (n : ℕ). (reading R n).outs) (cond_yes (eqb (cut_byte R i) 1) (suc i) (start_of R i) p)
      ∙ ap (λ (s : Reading). s.outs) (cond_yes (eqb (cut_byte R i) 1) _ _ p))
      (λ p. ap (λ (n : ℕ). (reading R n).outs) (cond_no (eqb (cut_byte R i) 1) (suc i) (start_of R i) p) ∙ none-begun i)

  -- the cell that is begun where it begins has no output yet
  pub part_begun : (i : ℕ) → (part_to R (start_of R i) (ended_by R i)).outs ≡ []
  unfolding part_to
  part_begun i =
      let j = start_of R i in
      let e = same-cells i j (omega arith) (start_le i) in
      ap (λ (c : StoredCell). c.outs) (get_or_at (cells_to R j) _ [] no_cell (ended_by R i) e) ∙ none-begun i

  -- cells that have ended stay
  module _ (i k : ℕ) (h : k < length (cells_to R i)) where
    abbrev Stays : ℕ → Type 0
    Stays n = (k < length (cells_to R n)) × (get_or (cells_to R n) k no_cell ≡ get_or (cells_to R i) k no_cell)

    pub cells_stay : (n : ℕ) → i ≤ n → Stays n
    cells_stay zero l = let e : i ≡ 0 = omega arith in subst Stays e (h, refl)
    cells_stay (suc n) l =
        last_or_below i (suc n) (omega arith) (λ e. subst Stays e (h, refl))
        (λ m.
        let s = cells_stay n (omega arith) in
        by_test (eqb (cut_byte R n) 1)
        (λ p.
        let c = cells_cut n (eqb-true (cut_byte R n) 1 p) in (
          omega (arith, s.0, ap (λ (cs : List StoredCell). length cs) c, longer (cells_to R n) (ended_cell R n)),
          ap (λ (cs : List StoredCell). get_or cs k no_cell) c ∙ earlier (cells_to R n) (ended_cell R n) k s.0 ∙ s.1,
        ))
        (λ p.
        let c = cells_uncut n p in (
          omega (arith, s.0, ap (λ (cs : List StoredCell). length cs) c),
          ap (λ (cs : List StoredCell). get_or cs k no_cell) c ∙ s.1,
        )))

  pub ended_same : (i : ℕ) → eqb (cut_byte R i) 1 ≡ false → ended_by R (i + 1) ≡ ended_by R i
  ended_same i e = ap (λ (n : ℕ). length (cells_to R n)) (add-one i) ∙ ap (λ (cs : List StoredCell). length cs) (cells_uncut i e)

  -- the cell that a cut below record i ends
  module _ (i : ℕ) (within : i < record_count R) (cut : cut_byte R i ≡ 1) where
    ended_more : length (cells_to R (suc i)) ≡ suc (ended_by R i)
    ended_more = ap (λ (cs : List StoredCell). length cs) (cells_cut i cut) ∙ longer (cells_to R i) (ended_cell R i)

    pub cell_there : ended_by R i < cell_count R
    unfolding cell_count stored_cells
    cell_there = (cells_stay (suc i) (ended_by R i) (omega (arith, ended_more)) (record_count R) within).0

    cell_in : cell_at R (ended_by R i) ≡ get_or (cells_to R (suc i)) (ended_by R i) no_cell
    unfolding cell_at stored_cells
    cell_in = (cells_stay (suc i) (ended_by R i) (omega (arith, ended_more)) (record_count R) within).1

    pub cell_is : cell_at R (ended_by R i) ≡ ended_cell R i
    cell_is =
        cell_in ∙ ap (λ (cs : List StoredCell). get_or cs (ended_by R i) no_cell) (cells_cut i cut) ∙ latest (cells_to R i) (ended_cell R i)

    pub part_ended : part_to R (i + 1) (ended_by R i) ≡ cell_at R (ended_by R i)
    unfolding part_to
    part_ended =
        ap (λ (n : ℕ). part_to R n (ended_by R i)) (add-one i)
        ∙ get_or-append (cells_to R (suc i)) _ no_cell (ended_by R i) (omega (arith, ended_more)) ∙ sym cell_in

    pub ended-next : ended_by R (i + 1) ≡ suc (ended_by R i)
    ended-next = ap (λ (n : ℕ). length (cells_to R n)) (add-one i) ∙ ended_more

    pub has-cell : records_formed R ≡ true → has_cell R (ended_by R i) ≡ true
    unfolding has_cell
    has-cell e = and_join e (lt-ltb (ended_by R i) (cell_count R) cell_there)
