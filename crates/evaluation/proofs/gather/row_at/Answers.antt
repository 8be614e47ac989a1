-- `row_at` reads a row.
-- Assumes nothing.
use mathlib.Core.Path.{sym, ◌∙◌}
use Rattle.stored_spec.proofs.RowForms.{row_two}
use Rattle.evaluation.proofs.gather.row_at.Goals as goal

pub returns : goal.returns
returns c = let a = c.args in c.pair.ensures ∙ sym (row_two a.rows.now a.i)
