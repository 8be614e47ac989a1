-- `reduction::distinct::hit` meets its contract.
-- Assumes nothing.
use mathlib.Core.Path.{◌∙◌}
use lib.Dec.{eqb}
use Rattle.reduction.proofs.StdSteps.{byte-flag}
use Rattle.reduction.proofs.distinct.hit.Goals as goal

pub returns : goal.returns
returns c = c.from.ensures ∙ byte-flag (eqb c.args.a c.args.b)
