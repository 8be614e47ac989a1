-- `reduction::distinct::stir` meets its contract.
-- Assumes nothing.
use mathlib.Core.Path.{refl}
use Rattle.reduction.specs.ColumnHashes.{stirred}
use Rattle.reduction.proofs.distinct.stir.Goals as goal

pub returns : goal.returns
unfolding stirred
returns c = refl
