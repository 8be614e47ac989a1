-- `out_of_range` is refusal 1's test.
-- Assumes nothing.
use mathlib.Core.Bool.{and_assoc}
use Rattle.sheet_spec.specs.Refusals.{out_of_range}
use Rattle.sheet.proofs.order.out_of_range.Goals as goal

pub returns : goal.returns
unfolding out_of_range
returns c = simp and_assoc
