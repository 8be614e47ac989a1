-- `formed` tests a stored cascade.
-- Assumes nothing.
use mathlib.Core.Path.{refl, sym, ◌∙◌, ap}
use Prim.Native.Nat.{ℕ, ◌*◌, ◌≤◌}
use native.Mathlib.Nat.{mul-le-mul}
use native.Mathlib.Omega.{arith}
use lib.ListN.{length}
use borrow.Author.Tests.{eq-eqb, ne_eqb}
use Rattle.stored_spec.specs.RowBytes.{room}
use Rattle.stored_spec.specs.StoredForm.{row_count, well_formed_as}
use Rattle.stored_spec.proofs.StoredParts.{records_have}
use Rattle.stored.specs.Formed.{rows_wanted}
use Rattle.stored.proofs.Given.{some_given, none_given}
use Rattle.stored.proofs.rows.formed.Goals as goal

pub overflow_mul-wanted : goal.overflow_mul-wanted
unfolding rows_wanted
overflow_mul-wanted g c =
    let R = c.args.records.now in
    let r = some_given _ (sym c.in-Some.is ∙ c.rows_wanted.ensures) in
    let few : c.in-Some.wanted ≤ 32768 = omega (arith, r.1, (records_have _ R r.0).rows) in
    omega (arith, mul-le-mul few c.requires.1)

pub rows_formed-requires : goal.rows_formed-requires
unfolding rows_wanted room
rows_formed-requires g c =
    let R = c.args.records.now in
    let r = some_given _ (sym c.in-Some.is ∙ c.rows_wanted.ensures) in
    (c.requires.0, c.requires.1, (records_have _ R r.0).cells, c.if-rows-wanted.true ∙ ap (λ (n : ℕ). n * g.row.SIZE) r.1)

pub returns-then-rows-wanted : goal.returns-then-rows-wanted
unfolding rows_wanted room well_formed_as
returns-then-rows-wanted g c =
    let R = c.args.records.now in
    let r = some_given _ (sym c.in-Some.is ∙ c.rows_wanted.ensures) in
    let whole = c.if-rows-wanted.true ∙ ap (λ (n : ℕ). n * g.row.SIZE) r.1 in
    rw (r.0, eq-eqb (length c.args.rows.now) (row_count R * g.row.SIZE) whole) c.rows_formed.ensures

pub returns-else-rows-wanted : goal.returns-else-rows-wanted
unfolding rows_wanted room well_formed_as
returns-else-rows-wanted g c =
    let R = c.args.records.now in
    let r = some_given _ (sym c.in-Some.is ∙ c.rows_wanted.ensures) in
    rw (
      r.0,
      ne_eqb (length c.args.rows.now) (row_count R * g.row.SIZE) (λ e. c.if-rows-wanted.false (e ∙ ap (λ (n : ℕ). n * g.row.SIZE) (sym r.1))),
    ) refl

pub returns-in_default : goal.returns-in_default
unfolding rows_wanted well_formed_as
returns-in_default g c = rw (none_given _ _ (sym c.in_default.is ∙ c.rows_wanted.ensures)) refl
