-- `reduction::links::byte_of` meets its contract.
-- Assumes nothing.
use mathlib.Core.Path.{refl}
use Rattle.reduction.specs.FirstBytes.{byte_of}
use native.Mathlib.Omega.{arith}
use Rattle.reduction.proofs.links.byte_of.Goals as goal

pub returns : goal.returns
unfolding byte_of
returns c = (refl, omega arith)
