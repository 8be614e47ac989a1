-- What is widened is well formed by the rules of today and runs to the same outputs for every word, and so it is with what is narrowed, by the rules before.
-- Assumes nothing.
use mathlib.Core.Path.{◌≡◌, refl, sym, ◌∙◌, ap, ap₂, subst}
use mathlib.Core.Bool.{Bool, true, false}
use mathlib.Core.List.{List}
use Prim.Native.Nat.{ℕ, ◌<◌, ◌≤◌}
use native.Mathlib.Omega.{arith}
use lib.ListN.{length, take}
use Rattle.laws.specs.Tests.{every}
use Rattle.laws.specs.Lists.{written}
use Rattle.laws.proofs.Filled.{written_front}
use Rattle.stored_spec.specs.RowBytes.{one_byte, two_bytes, row_value, room}
use Rattle.stored_spec.specs.StoredForm.{cell_count, cell_formed_as, row_count, records_formed, well_formed_as}
use Rattle.stored_spec.specs.Run.{run_by}
use Rattle.stored_spec.specs.ReadWrite.{Written, written_as}
use Rattle.stored_spec.proofs.ReadWriteCases.{formed_parts}
use Rattle.stored_spec.proofs.StoredParts.{records_have, records_fit, fit_more}
use Rattle.row_forms_spec.specs.Moves.{over_eight, moved_rows, move, widen, narrow}
use Rattle.row_forms_spec.proofs.MovedRows.{row_moved, length_moved, well_moved, run_moved}
use Rattle.row_forms_spec.proofs.MoveAnswers.{answered, gives_0, not_over_fit}

-- the cascade of the records R' and the row bytes bytes', b each, is that of R and bytes, a each
pub record SameCascade (a b : ℕ) (R bytes R' bytes' : List ℕ) : Type 0 where
  pub records : R' ≡ R
  pub moved : bytes' ≡ moved_rows a b bytes
  pub formed : well_formed_as b R' bytes' ≡ true
  pub rows : (p : ℕ) → p < row_count R → row_value b bytes' p ≡ row_value a bytes p
  pub runs : (w k : ℕ) → k ≤ cell_count R → run_by (row_value b bytes') R' w k ≡ run_by (row_value a bytes) R w k

-- what lies at the front of the memories that a move leaves
abbrev pub records_left : List ℕ → Written → List ℕ
records_left R m = take (length R) m.records

abbrev pub rows_left : ℕ → List ℕ → Written → List ℕ
rows_left b R m = take (room b (row_count R)) m.rows

module _ (a b : ℕ) (over : Bool) (R bytes records rows : List ℕ) (someA : 0 < a) (someB : 0 < b)
    (well : well_formed_as a R bytes ≡ true) (fit : every (cell_count R) (cell_formed_as b R) ≡ true) (formed : records_formed R ≡ true)
    (zero : (move a b over R bytes records rows).answer ≡ 0) where
  abbrev left : Written
  left = move a b over R bytes records rows

  done : left ≡ written_as 0 (written records 0 R) (written rows 0 (moved_rows a b bytes))
  done = let (f, h, k, o) = (answered a b over R bytes records rows).at_0 zero in gives_0 a b over R bytes records rows f h k o

  records_left_lem : records_left R left ≡ R
  records_left_lem = ap (records_left R) done ∙ written_front R records

  rows_left_lem : rows_left b R left ≡ moved_rows a b bytes
  rows_left_lem =
      ap₂ (λ (n : ℕ) (m : Written). take n m.rows) (sym (length_moved a b R bytes someA someB well fit)) done
      ∙ written_front (moved_rows a b bytes) rows

  same : SameCascade a b R bytes (records_left R left) (rows_left b R left)
  same =
      subst (λ (x : List ℕ). SameCascade a b R bytes x (rows_left b R left)) (sym records_left_lem)
      (subst (λ (x : List ℕ). SameCascade a b R bytes R x) (sym rows_left_lem)
      (record {
        records = refl;
        moved = refl;
        formed = well_moved a b R bytes someA someB well fit;
        rows = row_moved a b R bytes someA someB well fit;
        runs = run_moved a b R bytes someA someB well fit formed;
      }))

module _ (R bytes records rows : List ℕ) where
  -- widened: `formed` says that it is well formed by the rules of today
  pub widened_same : (widen R bytes records rows).answer ≡ 0
      → SameCascade one_byte two_bytes R bytes (records_left R (widen R bytes records rows)) (rows_left two_bytes R (widen R bytes records rows))
  unfolding widen
  widened_same e =
      let well = ((answered one_byte two_bytes false R bytes records rows).at_0 e).0 in
      let formed = (formed_parts one_byte R bytes well).0 in
      let wide = fit_more one_byte two_bytes R (omega arith) (records_have one_byte R formed).cells in
      same one_byte two_bytes false R bytes records rows (omega arith) (omega arith) well wide (records_fit one_byte two_bytes R formed wide) e

  -- narrowed: by the rules before document 02, §6
  pub narrowed-same : (narrow R bytes records rows).answer ≡ 0
      → SameCascade two_bytes one_byte R bytes (records_left R (narrow R bytes records rows)) (rows_left one_byte R (narrow R bytes records rows))
  unfolding narrow
  narrowed-same e =
      let (well, h, k, o) = (answered two_bytes one_byte (over_eight R) R bytes records rows).at_0 e in
      let formed = (formed_parts two_bytes R bytes well).0 in
      let slim = not_over_fit R (records_have two_bytes R formed).cells o in
      same two_bytes one_byte (over_eight R) R bytes records rows (omega arith) (omega arith) well slim formed e
