-- `few_fit` tests whether the rows of records can be counted.
-- Assumes nothing.
use mathlib.Core.Path.{◌∙◌, ap}
use Rattle.std.specs.Option.{is_some}
use Rattle.stored.proofs.Given.{is_some_given}
use Rattle.stored.proofs.reads.few_fit.Goals as goal

pub returns : goal.returns
returns c = c.is_some.ensures ∙ ap is_some c.few_rows.ensures ∙ is_some_given _ _
