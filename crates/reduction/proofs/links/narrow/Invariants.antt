-- `reduction::links::narrow` meets its contract.
-- Assumes nothing.
use mathlib.Core.Path.{◌≡◌}
use Rattle.laws.specs.Lists.{puts}
use Rattle.laws.specs.Bits.{marks}
use Rattle.reduction.specs.FirstBytes.{narrowed}
use Rattle.reduction.proofs.links.narrow.Given as goal

abbrev pub invariant-loop-d : goal.invariant-loop-d
invariant-loop-d l = (l.left ≡ marks 0 (narrowed l.z l.y l.from l.bytes.zero l.bytes.one l.initial.row) l.d) × (l.row ≡ puts l.d (narrowed l.z l.y l.from l.bytes.zero l.bytes.one l.initial.row) l.initial.row)
