-- Going up and back returns the old bytes; going back and up returns the new bytes, wherever going back is possible.
-- Assumes nothing.
use mathlib.Core.Path.{◌≡◌, refl, ◌∙◌, ap, ap₂}
use mathlib.Core.Bool.{true, false}
use mathlib.Core.List.{List}
use Prim.Native.Nat.{ℕ, ◌≤◌}
use native.Mathlib.Omega.{arith}
use lib.ListN.{length}
use Rattle.laws.specs.Lists.{written}
use Rattle.stored_spec.specs.RowBytes.{one_byte, two_bytes, room}
use Rattle.stored_spec.specs.StoredForm.{row_count, well_formed}
use Rattle.stored_spec.specs.ReadWrite.{written_as}
use Rattle.stored_spec.proofs.ReadWriteCases.{formed_parts}
use Rattle.stored_spec.proofs.StoredParts.{records_have, fit_more}
use Rattle.row_forms_spec.specs.Moves.{over_eight, moved_rows, widen, narrow}
use Rattle.row_forms_spec.proofs.MovedRows.{AreBytes, well_moved, moved_back}
use Rattle.row_forms_spec.proofs.MoveAnswers.{answered, gives_0, fit_not_over, not_over_fit}
use Rattle.row_forms_spec.proofs.SameCascade.{records_left, rows_left, widened_same, narrowed-same}

-- rows moved back and up, where going back is possible
pub back_same : (R bytes : List ℕ) → well_formed R bytes ≡ true → over_eight R ≡ false → AreBytes bytes
    → moved_rows one_byte two_bytes (moved_rows two_bytes one_byte bytes) ≡ bytes
back_same R bytes well o are =
    let slim = not_over_fit R (records_have two_bytes R (formed_parts two_bytes R bytes well).0).cells o in
    moved_back two_bytes one_byte R bytes (omega arith) (omega arith) well slim are

-- R and bytes were moved to records and rows, and from there on to records2 and rows2, which are long enough
module _ (R bytes records rows : List ℕ) (bytes_are : AreBytes bytes) (records2 rows2 : List ℕ) (long : length R ≤ length records2) where
  pub up_and_back : (widen R bytes records rows).answer ≡ 0 → room one_byte (row_count R) ≤ length rows2
      → narrow (records_left R (widen R bytes records rows)) (rows_left two_bytes R (widen R bytes records rows)) records2 rows2
      ≡ written_as 0 (written records2 0 R) (written rows2 0 bytes)
  unfolding widen narrow
  up_and_back e k =
      let well = ((answered one_byte two_bytes _ R bytes records rows).at_0 e).0 in
      let slim = (records_have one_byte R (formed_parts one_byte R bytes well).0).cells in
      let wide = fit_more one_byte two_bytes R (omega arith) slim in
      let moved = moved_rows one_byte two_bytes bytes in
      let up = widened_same R bytes records rows e in
      ap₂ (λ (x y : List ℕ). narrow x y records2 rows2) up.records up.moved
      ∙ gives_0 two_bytes one_byte (over_eight R) R moved records2 rows2
      (well_moved one_byte two_bytes R bytes (omega arith) (omega arith) well wide) long k (fit_not_over R slim)
      ∙ ap (λ (x : List ℕ). written_as 0 (written records2 0 R) (written rows2 0 x))
      (moved_back one_byte two_bytes R bytes (omega arith) (omega arith) well wide bytes_are)

  pub back_and_up : (narrow R bytes records rows).answer ≡ 0 → room two_bytes (row_count R) ≤ length rows2
      → widen (records_left R (narrow R bytes records rows)) (rows_left one_byte R (narrow R bytes records rows)) records2 rows2
      ≡ written_as 0 (written records2 0 R) (written rows2 0 bytes)
  unfolding widen narrow
  back_and_up e k =
      let (well, h, m, o) = (answered two_bytes one_byte (over_eight R) R bytes records rows).at_0 e in
      let slim = not_over_fit R (records_have two_bytes R (formed_parts two_bytes R bytes well).0).cells o in
      let moved = moved_rows two_bytes one_byte bytes in
      let back = narrowed-same R bytes records rows e in
      ap₂ (λ (x y : List ℕ). widen x y records2 rows2) back.records back.moved
      ∙ gives_0 one_byte two_bytes _ R moved records2 rows2 (well_moved two_bytes one_byte R bytes (omega arith) (omega arith) well slim) long k refl
      ∙ ap (λ (x : List ℕ). written_as 0 (written records2 0 R) (written rows2 0 x)) (back_same R bytes well o bytes_are)
