-- `count_rows` counts the rows of records whose cells fit.
-- Assumes nothing.
use mathlib.Core.Path.{◌∙◌, ap}
use Prim.Native.Nat.{ℕ}
use Rattle.std.specs.Prelude.{Option}
use Rattle.std.specs.Option.{unwrap_or}
use Rattle.stored_spec.specs.StoredForm.{row_count}
use Rattle.stored.specs.Reads.{cells_fit, rows_counted}
use Rattle.stored.proofs.Given.{unwrap_given}
use Rattle.stored.proofs.reads.count_rows.Goals as goal

pub returns : goal.returns
unfolding rows_counted
returns c =
    let R = c.args.records.now in
    c.unwrap_or.ensures ∙ ap (λ (o : Option ℕ). unwrap_or o 0) c.few_rows.ensures ∙ unwrap_given (cells_fit R) (row_count R) 0
