-- `widen` moves a cascade to two bytes a row.
-- Assumes nothing.
use mathlib.Core.Path.{◌≡◌, refl, sym, ◌∙◌, ap₂}
use mathlib.Core.Bool.{true}
use mathlib.Core.List.{List}
use Prim.Native.Nat.{ℕ, ◌≤◌}
use native.Mathlib.Omega.{arith}
use lib.ListN.{length}
use Rattle.laws.proofs.Puts.{copied}
use Rattle.stored_spec.specs.RowBytes.{one_byte, two_bytes, room}
use Rattle.stored_spec.specs.StoredForm.{row_count, well_formed_as}
use Rattle.stored_spec.specs.ReadWrite.{written_as}
use Rattle.stored_spec.proofs.ReadWriteCases.{formed_parts}
use Rattle.stored_spec.proofs.RowForms.{room_one, room_two}
use Rattle.row_forms_spec.specs.Moves.{widen}
use Rattle.row_forms_spec.proofs.MoveAnswers.{gives_12, gives_10, gives_11, gives_0}
use Rattle.row_forms.proofs.widening.widen.Goals as goal

-- two bytes for each of the bytes
wanted : (R bytes : List ℕ) → well_formed_as one_byte R bytes ≡ true → room two_bytes (row_count R) ≡ room two_bytes (length bytes)
wanted R bytes e = omega (arith, (formed_parts one_byte R bytes e).1, room_one (row_count R), room_two (row_count R), room_two (length bytes))

pub returns-then-records-stored : goal.returns-then-records-stored
unfolding widen
returns-then-records-stored c =
    let a = c.args in
    let well = sym c.one_byte_formed.ensures ∙ c.if-one_byte_formed.true in
    sym (gives_10 one_byte two_bytes _ a.stored.now a.bytes.now a.records.now a.rows.now well c.if-records-stored.true)

pub returns-then-rows-bytes : goal.returns-then-rows-bytes
unfolding widen
returns-then-rows-bytes c =
    let a = c.args in
    let R = a.stored.now in
    let bytes = a.bytes.now in
    let well = sym c.one_byte_formed.ensures ∙ c.if-one_byte_formed.true in
    sym (gives_11 one_byte two_bytes _ R bytes a.records.now a.rows.now well (omega (arith, c.if-records-stored.false))
    (omega (arith, wanted R bytes well, room_two (length bytes), c.if-rows-bytes.true)))

pub widen_rows-requires : goal.widen_rows-requires
widen_rows-requires c =
    let a = c.args in
    omega (arith, room_two (length a.bytes.now), c.if-rows-bytes.false)

pub returns-then-one_byte_formed : goal.returns-then-one_byte_formed
unfolding widen
returns-then-one_byte_formed c =
    let a = c.args in
    let R = a.stored.now in
    let bytes = a.bytes.now in
    let well = sym c.one_byte_formed.ensures ∙ c.if-one_byte_formed.true in
    let h : length R ≤ length a.records.now = omega (arith, c.if-records-stored.false) in
    let k : room two_bytes (row_count R) ≤ length a.rows.now = omega (arith, wanted R bytes well, room_two (length bytes), c.if-rows-bytes.false) in
    ap₂ (λ (x y : List ℕ). written_as 0 x y) (c.copy_front.ensures ∙ copied R a.records.now h) c.widen_rows.ensures
    ∙ sym (gives_0 one_byte two_bytes _ R bytes a.records.now a.rows.now well h k refl)

pub returns : goal.returns
unfolding widen
returns c =
    let a = c.args in
    sym (gives_12 one_byte two_bytes _ a.stored.now a.bytes.now a.records.now a.rows.now (sym c.one_byte_formed.ensures ∙ c.if-one_byte_formed.false))
