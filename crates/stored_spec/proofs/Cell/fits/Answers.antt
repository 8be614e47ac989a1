-- `Cell::fits` meets its contract.
-- Assumes nothing.
use mathlib.Core.Path.{refl}
use Rattle.stored_spec.specs.Cells.{fits}
use Rattle.stored_spec.proofs.Cell.fits.Goals as goal

pub returns : goal.returns
unfolding fits
returns c = refl
