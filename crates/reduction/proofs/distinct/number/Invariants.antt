-- `reduction::distinct::number` meets its contract.
-- Assumes nothing.
use mathlib.Core.Path.{◌≡◌}
use Rattle.laws.specs.Lists.{puts}
use Rattle.reduction_spec.specs.Numbering.{index_in, firsts_of}
use Rattle.reduction.specs.Distinct.{same_words}
use Rattle.reduction.proofs.distinct.NumberedSoFar.{SoFarWords}
use Rattle.reduction.proofs.distinct.number.Given as goal

abbrev pub invariant-loop-q : goal.invariant-loop-q
invariant-loop-q l =
    SoFarWords l.planes.zero l.planes.one l.size l.q l.count l.keys l.kept
    × (l.numbers ≡ puts l.q (λ i. index_in (same_words l.planes.zero l.planes.one l.size) (firsts_of (same_words l.planes.zero l.planes.one l.size) i) i) l.initial.numbers)
