-- `records_formed` tests records.
-- Assumes nothing.
use mathlib.Core.Path.{◌∙◌, ap}
use Rattle.std.specs.Option.{is_some}
use Rattle.stored.specs.Formed.{rows_wanted}
use Rattle.stored.proofs.Given.{is_some_given}
use Rattle.stored.proofs.formed.records_formed.Goals as goal

pub returns : goal.returns
unfolding rows_wanted
returns c = c.is_some.ensures ∙ ap is_some c.rows_wanted.ensures ∙ is_some_given _ _
