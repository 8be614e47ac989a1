-- What well formed records have, and the test of records and rows put together from its parts.
-- Assumes nothing.
use mathlib.Core.Path.{◌≡◌, refl}
use mathlib.Core.Bool.{Bool, true, false, ◌&&◌}
use mathlib.Core.List.{List}
use Prim.Native.Nat.{ℕ, ◌-◌, ◌*◌, ◌≤◌, ◌<◌}
use lib.Dec.{eqb, leb}
use lib.ListN.{length}
use native.Mathlib.Omega.{arith}
use borrow.Author.Tests.{eqb-true, eq-eqb, leb-true, le-leb}
use Rattle.laws.specs.Tests.{every, within}
use Rattle.laws.proofs.Cases.{and_split, and_join}
use Rattle.laws.proofs.Tests.{every_of, every_at, within_yes}
use Rattle.stored_spec.specs.Cells.{fits}
use Rattle.stored_spec.specs.StoredForm.{record_count, cut_byte, rail_byte, record_formed, cell_count, cell_at, size_of, cell_formed_as, row_count, records_formed_as}

-- whole records, 1 to 20 of them
pub shape_has : (R : List ℕ) → (eqb (length R) (record_count R * 4) && within 1 20 (record_count R)) ≡ true
    → (length R ≡ record_count R * 4) × (1 ≤ record_count R) × (record_count R ≤ 20)
shape_has R e =
    let a = and_split (eqb (length R) (record_count R * 4)) (within 1 20 (record_count R)) e in
    let b = and_split (leb 1 (record_count R)) (leb (record_count R) 20) a.1 in
    (eqb-true (length R) (record_count R * 4) a.0, leb-true 1 (record_count R) b.0, leb-true (record_count R) 20 b.1)

-- the parts of the test of records
pub record RecordsHave (z : ℕ) (R : List ℕ) : Type 0 where
  pub whole : length R ≡ record_count R * 4
  pub some : 1 ≤ record_count R
  pub few : record_count R ≤ 20
  pub each : (i : ℕ) → i < record_count R → record_formed R i ≡ true
  pub last : cut_byte R (record_count R - 1) ≡ 1
  pub ends : rail_byte R (record_count R - 1) ≡ 0
  pub cells : every (cell_count R) (cell_formed_as z R) ≡ true
  pub rows : row_count R ≤ 32768

pub records_have : (z : ℕ) (R : List ℕ) → records_formed_as z R ≡ true → RecordsHave z R
unfolding records_formed_as
records_have z R e =
    let g = and_split _ (leb (row_count R) 32768) e in
    let f = and_split _ (every (cell_count R) (cell_formed_as z R)) g.0 in
    let d = and_split _ (eqb (rail_byte R (record_count R - 1)) 0) f.0 in
    let c = and_split _ (eqb (cut_byte R (record_count R - 1)) 1) d.0 in
    let b = and_split _ (every (record_count R) (record_formed R)) c.0 in
    let s = shape_has R b.0 in
    record {
      whole = s.0;
      some = s.1;
      few = s.2;
      each = every_at (record_formed R) (record_count R) b.1;
      last = eqb-true (cut_byte R (record_count R - 1)) 1 c.1;
      ends = eqb-true (rail_byte R (record_count R - 1)) 0 d.1;
      cells = f.1;
      rows = leb-true (row_count R) 32768 g.1;
    }

-- well formed records whose cells fit the form with b bytes a row are well formed in it
pub records_fit : (a b : ℕ) (R : List ℕ) → records_formed_as a R ≡ true → every (cell_count R) (cell_formed_as b R) ≡ true → records_formed_as b R ≡ true
unfolding records_formed_as
records_fit a b R formed fit =
    let h = records_have a R formed in
    and_join
    (and_join
    (and_join
    (and_join
    (and_join
    (and_join (eq-eqb (length R) (record_count R * 4) h.whole) (within_yes 1 20 (record_count R) h.some h.few))
    (every_of (record_formed R) (record_count R) h.each))
    (eq-eqb (cut_byte R (record_count R - 1)) 1 h.last))
    (eq-eqb (rail_byte R (record_count R - 1)) 0 h.ends))
    fit)
    (le-leb (row_count R) 32768 h.rows)

-- cells that fit rows of fewer bytes fit rows of more
pub fit_more : (a b : ℕ) (R : List ℕ) → a ≤ b → every (cell_count R) (cell_formed_as a R) ≡ true → every (cell_count R) (cell_formed_as b R) ≡ true
unfolding cell_formed_as fits
fit_more a b R h e =
    every_of (cell_formed_as b R) (cell_count R)
    (λ k l.
    let c = size_of (cell_at R k) in
    let (i, o) = and_split (leb c.inputs 12) (leb c.outputs (8 * a)) (every_at (cell_formed_as a R) (cell_count R) e k l) in
    and_join i (le-leb c.outputs (8 * b) (omega (arith, leb-true c.outputs (8 * a) o))))
