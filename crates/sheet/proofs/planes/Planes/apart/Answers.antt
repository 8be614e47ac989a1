-- `apart` compares two places of the planes.
-- Assumes nothing.
use mathlib.Core.Path.{refl}
use Rattle.sheet.specs.Depends.{apart_at}
use Rattle.sheet.proofs.planes.Planes.apart.Goals as goal

pub returns : goal.returns
unfolding apart_at
returns c = refl
