-- `reduction::distinct::fold` meets its contract.
-- Assumes nothing.
use mathlib.Core.Path.{refl}
use Rattle.reduction.specs.ColumnHashes.{folded}
use Rattle.reduction.proofs.distinct.fold.Goals as goal

pub returns : goal.returns
unfolding folded
returns c = refl
