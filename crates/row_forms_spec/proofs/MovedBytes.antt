-- The bytes of moved rows, one by one.
-- Assumes nothing.
use mathlib.Core.Path.{◌≡◌, ◌∙◌, ap}
use mathlib.Core.List.{List}
use Prim.Native.Nat.{ℕ, ◌+◌, ◌*◌, ◌/◌, ◌%◌, ◌^◌, ◌<◌}
use native.Mathlib.Nat.{div-one, mod-eq_of_lt}
use native.Mathlib.Omega.{arith}
use lib.ListN.{length, get_or}
use Rattle.stored_spec.specs.RowBytes.{one_byte, two_bytes, row_value, rows_of}
use Rattle.stored_spec.proofs.RowForms.{byte_at, length-row_bytes, length-rows_of, row_at, row_one, row_two, room_one, room_two}
use Rattle.row_forms_spec.specs.Moves.{moved_rows}
use Rattle.row_forms_spec.proofs.MovedRows.{AreBytes}

-- byte x of row i
moved-byte : (a b : ℕ) (bytes : List ℕ) (i x : ℕ) → i < length bytes / a → x < b
    → get_or (moved_rows a b bytes) (i * b + x) 0 ≡ row_value a bytes i / 2 ^ (8 * x) % 256
moved-byte a b bytes i x l m =
    byte_at b (rows_of a bytes) i x (omega (arith, length-rows_of a bytes)) m
    ∙ ap (λ (v : ℕ). v / 2 ^ (8 * x) % 256) (row_at a bytes i l)

-- widened: each byte, then 0
module _ (bytes : List ℕ) (are : AreBytes bytes) (i : ℕ) (l : i < length bytes) where
  inside : i < length bytes / 1
  inside = omega (arith, div-one (length bytes))

  pub wide_low : get_or (moved_rows one_byte two_bytes bytes) (i * 2) 0 ≡ get_or bytes i 0
  wide_low =
      let moved = moved_rows one_byte two_bytes bytes in
      let at : i * 2 ≡ i * 2 + 0 = omega arith in
      let small : row_value one_byte bytes i < 256 = omega (arith, row_one bytes i, are i) in
      ap (λ (k : ℕ). get_or moved k 0) at ∙ moved-byte one_byte two_bytes bytes i 0 inside (omega arith)
      ∙ ap (λ (v : ℕ). v % 256) (div-one (row_value one_byte bytes i)) ∙ mod-eq_of_lt small ∙ row_one bytes i

  pub wide_high : get_or (moved_rows one_byte two_bytes bytes) (i * 2 + 1) 0 ≡ 0
  wide_high =
      let small : row_value one_byte bytes i / 256 ≡ 0 = omega (arith, row_one bytes i, are i) in
      moved-byte one_byte two_bytes bytes i 1 inside (omega arith) ∙ ap (λ (v : ℕ). v % 256) small

pub wide_length : (bytes : List ℕ) → length (moved_rows one_byte two_bytes bytes) ≡ length bytes * 2
wide_length bytes =
    length-row_bytes two_bytes (rows_of one_byte bytes) ∙ room_two (length (rows_of one_byte bytes))
    ∙ ap (λ (n : ℕ). n * 2) (length-rows_of one_byte bytes ∙ div-one (length bytes))

-- narrowed: the low byte of each pair
pub slim_byte : (bytes : List ℕ) → AreBytes bytes → (i : ℕ) → i < length bytes / 2 → get_or (moved_rows two_bytes one_byte bytes) i 0 ≡ get_or bytes (i * 2) 0
slim_byte bytes are i l =
    let moved = moved_rows two_bytes one_byte bytes in
    let at : i ≡ i * 1 + 0 = omega arith in
    let low : row_value two_bytes bytes i % 256 ≡ get_or bytes (i * 2) 0 = omega (arith, row_two bytes i, are (i * 2)) in
    ap (λ (k : ℕ). get_or moved k 0) at ∙ moved-byte two_bytes one_byte bytes i 0 l (omega arith)
    ∙ ap (λ (v : ℕ). v % 256) (div-one (row_value two_bytes bytes i)) ∙ low

pub slim_length : (bytes : List ℕ) → length (moved_rows two_bytes one_byte bytes) ≡ length bytes / 2
slim_length bytes = length-row_bytes one_byte (rows_of two_bytes bytes) ∙ room_one (length (rows_of two_bytes bytes)) ∙ length-rows_of two_bytes bytes
