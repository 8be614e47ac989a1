-- `rows_wanted` counts the rows of well formed records.
-- Assumes nothing.
use mathlib.Core.Path.{refl, sym, ◌∙◌, ap}
use native.Mathlib.Omega.{arith}
use borrow.Author.Tests.{le-leb, lt-leb}
use Rattle.std.specs.Prelude.{Some}
use Rattle.stored_spec.specs.StoredForm.{row_count, records_formed_as}
use Rattle.stored_spec.proofs.StoredParts.{shape_has}
use Rattle.stored.specs.Formed.{rows_wanted}
use Rattle.stored.proofs.Given.{some_given, none_given}
use Rattle.stored.proofs.formed.rows_wanted.Goals as goal

pub returns-then-not-shaped : goal.returns-then-not-shaped
unfolding rows_wanted records_formed_as
returns-then-not-shaped c = rw (sym c.shaped.ensures ∙ c.if-not-shaped.true) refl

pub returns-then-not-each_formed : goal.returns-then-not-each_formed
unfolding rows_wanted records_formed_as
returns-then-not-each_formed c =
    rw (sym c.shaped.ensures ∙ c.if-not-shaped.false, sym c.each_formed.ensures ∙ c.if-not-each_formed.true) refl

pub last_cut-requires : goal.last_cut-requires
last_cut-requires c = (shape_has c.args.records.now (sym c.shaped.ensures ∙ c.if-not-shaped.false)).1

pub returns-then-not-last_cut : goal.returns-then-not-last_cut
unfolding rows_wanted records_formed_as
returns-then-not-last_cut c =
    rw (
      sym c.shaped.ensures ∙ c.if-not-shaped.false,
      sym c.each_formed.ensures ∙ c.if-not-each_formed.false,
      sym c.last_cut.ensures ∙ c.if-not-last_cut.true,
    ) refl

pub rows_of-requires : goal.rows_of-requires
rows_of-requires c =
    let h = shape_has c.args.records.now (sym c.shaped.ensures ∙ c.if-not-shaped.false) in
    (omega (arith, h.0, h.2), c.requires)

pub returns-in_err-rows : goal.returns-in_err-rows
unfolding rows_wanted records_formed_as
returns-in_err-rows c =
    let over = none_given _ _ (sym c.in_err-rows.was ∙ c.rows_of.ensures) in
    c.from_residual.ensures
    ∙ rw (
      sym c.shaped.ensures ∙ c.if-not-shaped.false,
      sym c.each_formed.ensures ∙ c.if-not-each_formed.false,
      sym c.last_cut.ensures ∙ c.if-not-last_cut.false,
      over,
    ) refl

pub returns-then-rows-gt-MOST_ROWS : goal.returns-then-rows-gt-MOST_ROWS
unfolding rows_wanted records_formed_as
returns-then-rows-gt-MOST_ROWS c =
    let h = c.in_ok-rows in
    let g = some_given _ (sym h.was ∙ c.rows_of.ensures) in
    rw (
      sym c.shaped.ensures ∙ c.if-not-shaped.false,
      sym c.each_formed.ensures ∙ c.if-not-each_formed.false,
      sym c.last_cut.ensures ∙ c.if-not-last_cut.false,
      g.0,
      lt-leb (row_count c.args.records.now) 32768 (omega (arith, g.1)),
    ) refl

pub returns : goal.returns
unfolding rows_wanted records_formed_as
returns c =
    let h = c.in_ok-rows in
    let g = some_given _ (sym h.was ∙ c.rows_of.ensures) in
    rw (
      sym c.shaped.ensures ∙ c.if-not-shaped.false,
      sym c.each_formed.ensures ∙ c.if-not-each_formed.false,
      sym c.last_cut.ensures ∙ c.if-not-last_cut.false,
      g.0,
      le-leb (row_count c.args.records.now) 32768 (omega (arith, g.1)),
    ) (ap Some g.1)
