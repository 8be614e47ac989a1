-- What reading and writing give in each case, and the lent memories after.
-- Assumes nothing.
use mathlib.Core.Path.{◌≡◌, refl, sym, ◌∙◌, ap}
use mathlib.Core.Bool.{true, false}
use mathlib.Core.List.{List}
use Prim.Native.Nat.{ℕ, ◌<◌, ◌≤◌}
use native.Mathlib.Omega.{arith}
use lib.Dec.{eqb}
use lib.ListN.{length}
use borrow.Author.Tests.{eqb-true, lt-ltb, le-ltb}
use Rattle.laws.specs.Lists.{written}
use Rattle.laws.specs.Tests.{every}
use Rattle.laws.proofs.Cases.{by_test, by_less, and_split}
use Rattle.stored_spec.specs.RowBytes.{two_bytes, room}
use Rattle.stored_spec.specs.StoredForm.{records_formed, records_formed_as, cell_count, row_count, rows_formed_as, well_formed, well_formed_as}
use Rattle.stored_spec.specs.ReadWrite.{was_read, not_read, Written, cascade_of, read, written_as, write_bytes}

-- what is well formed has well formed records, as many row bytes as its rows take, and rows below 2^outputs
pub formed_parts : (z : ℕ) (R bytes : List ℕ) → well_formed_as z R bytes ≡ true
    → (records_formed_as z R ≡ true) × (length bytes ≡ room z (row_count R)) × (every (cell_count R) (rows_formed_as z R bytes) ≡ true)
unfolding well_formed_as
formed_parts z R bytes e =
    let (a, b) = and_split _ (every (cell_count R) (rows_formed_as z R bytes)) e in
    let (c, d) = and_split (records_formed_as z R) (eqb (length bytes) (room z (row_count R))) a in
    (c, eqb-true (length bytes) (room z (row_count R)) d, b)

pub formed-records : (R bytes : List ℕ) → well_formed R bytes ≡ true → records_formed R ≡ true
formed-records R bytes e = (formed_parts two_bytes R bytes e).0

-- what is read
pub read-formed : (R bytes : List ℕ) → well_formed R bytes ≡ true → read R bytes ≡ was_read (cascade_of R bytes)
unfolding read
read-formed R bytes e = rw e refl

pub read-other : (R bytes : List ℕ) → well_formed R bytes ≡ false → read R bytes ≡ not_read 12
unfolding read
read-other R bytes e = rw e refl

-- what is written
module _ (R bytes records rows : List ℕ) where
  pub write-other : well_formed R bytes ≡ false → write_bytes R bytes records rows ≡ written_as 12 records rows
  unfolding write_bytes
  write-other e = rw e refl

  pub write-short : well_formed R bytes ≡ true → length records < length R → write_bytes R bytes records rows ≡ written_as 10 records rows
  unfolding write_bytes
  write-short e h = rw (e, lt-ltb (length records) (length R) h) refl

  pub write-few : well_formed R bytes ≡ true → length R ≤ length records → length rows < length bytes
      → write_bytes R bytes records rows ≡ written_as 11 records rows
  unfolding write_bytes
  write-few e h k = rw (e, le-ltb (length records) (length R) h, lt-ltb (length rows) (length bytes) k) refl

  pub write-formed : well_formed R bytes ≡ true → length R ≤ length records → length bytes ≤ length rows
      → write_bytes R bytes records rows ≡ written_as 0 (written records 0 R) (written rows 0 bytes)
  unfolding write_bytes
  write-formed e h k = rw (e, le-ltb (length records) (length R) h, le-ltb (length rows) (length bytes) k) refl

  -- where it answers 0
  pub write_answers : (write_bytes R bytes records rows).answer ≡ 0
      → (well_formed R bytes ≡ true) × (length R ≤ length records) × (length bytes ≤ length rows)
  write_answers e =
      by_test (well_formed R bytes)
      (λ f.
      by_less (length records) (length R) (λ h. no 10 (λ z. absurd (omega arith)) (write-short f h))
      (λ h.
      by_less (length rows) (length bytes) (λ k. no 11 (λ z. absurd (omega arith)) (write-few f h k)) (λ k. (f, h, k))))
      (λ f. no 12 (λ z. absurd (omega arith)) (write-other f))
    where
      no : {C : Type 0} (n : ℕ) → (n ≡ 0 → ⊥) → write_bytes R bytes records rows ≡ written_as n records rows → C
      no n z w = absurd (z (sym (ap (λ (x : Written). x.answer) w) ∙ e))

-- as many row bytes as the rows take that the records ask for
pub row-bytes : (R bytes : List ℕ) → well_formed R bytes ≡ true → length bytes ≡ room two_bytes (row_count R)
row-bytes R bytes e = (formed_parts two_bytes R bytes e).1
