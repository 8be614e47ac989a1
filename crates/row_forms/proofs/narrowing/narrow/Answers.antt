-- `narrow` moves a cascade to one byte a row.
-- Assumes nothing.
use mathlib.Core.Path.{◌≡◌, sym, ◌∙◌, ap, ap₂}
use mathlib.Core.Bool.{Bool, true, false, true≢false, ◌&&◌}
use mathlib.Core.List.{List}
use Prim.Native.Nat.{ℕ, ◌/◌, ◌≤◌}
use native.Mathlib.Omega.{arith}
use borrow.Author.Tests.{le-leb}
use lib.ListN.{length}
use Rattle.laws.specs.Tests.{every}
use Rattle.laws.proofs.Cases.{by_test}
use Rattle.laws.proofs.Puts.{copied}
use Rattle.stored_spec.specs.RowBytes.{one_byte, two_bytes, room}
use Rattle.stored_spec.specs.StoredForm.{cell_count, cell_formed_as, row_count, well_formed}
use Rattle.stored_spec.specs.ReadWrite.{written_as}
use Rattle.stored_spec.proofs.StoredParts.{records_have}
use Rattle.stored_spec.proofs.ReadWriteCases.{formed_parts}
use Rattle.stored_spec.proofs.RowForms.{room_one, room_two}
use Rattle.stored.specs.Reads.{cells_fit_as}
use Rattle.row_forms_spec.specs.Moves.{over_eight, narrow}
use Rattle.row_forms_spec.proofs.MoveAnswers.{gives_12, gives_10, gives_11, gives_15, gives_0, fit_not_over, not_over_fit}
use Rattle.row_forms.proofs.narrowing.narrow.Goals as goal

module _ (R bytes : List ℕ) (e : well_formed R bytes ≡ true) where
  -- a byte for each pair
  wanted : room one_byte (row_count R) ≡ length bytes / 2
  wanted = omega (arith, (formed_parts two_bytes R bytes e).1, room_one (row_count R), room_two (row_count R))

  -- the test of the cells
  fit_is : cells_fit_as one_byte R ≡ every (cell_count R) (cell_formed_as one_byte R)
  unfolding cells_fit_as
  fit_is =
      let h = records_have two_bytes R (formed_parts two_bytes R bytes e).0 in
      ap (λ (b : Bool). b && every (cell_count R) (cell_formed_as one_byte R)) (le-leb (length R) 80 (omega (arith, h.whole, h.few)))

  over_no : cells_fit_as one_byte R ≡ true → over_eight R ≡ false
  over_no f = fit_not_over R (sym fit_is ∙ f)

  over_yes : cells_fit_as one_byte R ≡ false → over_eight R ≡ true
  over_yes f =
      let cells = (records_have two_bytes R (formed_parts two_bytes R bytes e).0).cells in
      by_test (over_eight R) (λ o. o) (λ o. absurd (true≢false (sym (not_over_fit R cells o) ∙ sym fit_is ∙ f)))

pub returns-then-records-stored : goal.returns-then-records-stored
unfolding narrow
returns-then-records-stored c =
    let a = c.args in
    let R = a.stored.now in
    let well = sym c.well_formed-2.ensures ∙ c.if-well_formed.true in
    sym (gives_10 two_bytes one_byte (over_eight R) R a.bytes.now a.records.now a.rows.now well c.if-records-stored.true)

pub returns-then-short : goal.returns-then-short
unfolding narrow
returns-then-short c =
    let a = c.args in
    let R = a.stored.now in
    let bytes = a.bytes.now in
    let well = sym c.well_formed-2.ensures ∙ c.if-well_formed.true in
    let short = c.if-short.true in
    sym (gives_11 two_bytes one_byte (over_eight R) R bytes a.records.now a.rows.now well (omega (arith, c.if-records-stored.false))
    (omega (arith, wanted R bytes well, short)))

pub returns-then-over : goal.returns-then-over
unfolding narrow
returns-then-over c =
    let a = c.args in
    let R = a.stored.now in
    let bytes = a.bytes.now in
    let well = sym c.well_formed-2.ensures ∙ c.if-well_formed.true in
    let fits = c.one_byte_fits-over in
    let long = c.if-short.false in
    sym (gives_15 two_bytes one_byte (over_eight R) R bytes a.records.now a.rows.now well (omega (arith, c.if-records-stored.false))
    (omega (arith, wanted R bytes well, long)) (over_yes R bytes well (sym fits.ensures ∙ c.if-over.true)))

pub narrow_rows-requires : goal.narrow_rows-requires
narrow_rows-requires c =
    let a = c.args in
    let long = c.if-short.false in
    omega (arith, long)

pub returns-then-well_formed : goal.returns-then-well_formed
unfolding narrow
returns-then-well_formed c =
    let a = c.args in
    let R = a.stored.now in
    let bytes = a.bytes.now in
    let well = sym c.well_formed-2.ensures ∙ c.if-well_formed.true in
    let fits = c.one_byte_fits-over in
    let long = c.if-short.false in
    let h : length R ≤ length a.records.now = omega (arith, c.if-records-stored.false) in
    let k : room one_byte (row_count R) ≤ length a.rows.now = omega (arith, wanted R bytes well, long) in
    ap₂ (λ (x y : List ℕ). written_as 0 x y) (c.copy_front.ensures ∙ copied R a.records.now h) c.narrow_rows.ensures
    ∙ sym (gives_0 two_bytes one_byte (over_eight R) R bytes a.records.now a.rows.now well h k
    (over_no R bytes well (sym fits.ensures ∙ c.if-over.false)))

pub returns : goal.returns
unfolding narrow
returns c =
    let a = c.args in
    let R = a.stored.now in
    sym (gives_12 two_bytes one_byte (over_eight R) R a.bytes.now a.records.now a.rows.now (sym c.well_formed-2.ensures ∙ c.if-well_formed.false))
