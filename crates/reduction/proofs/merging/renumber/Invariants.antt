-- `reduction::merging::renumber` meets its contract.
-- Assumes nothing.
use mathlib.Core.Path.{◌≡◌}
use lib.ListN.{length}
use Rattle.laws.specs.Lists.{puts}
use Rattle.reduction_spec.specs.Numbering.{index_in, firsts_of}
use Rattle.reduction.specs.Distinct.{same_owner}
use Rattle.reduction.proofs.merging.CliqueNumbers.{Marks}
use Rattle.reduction.proofs.merging.renumber.Given as goal

abbrev pub invariant-loop-c : goal.invariant-loop-c
invariant-loop-c l =
    (l.count ≡ length (firsts_of (same_owner l.owner) l.c)) × (Marks l.owner (firsts_of (same_owner l.owner) l.c) l.seen)
    × (l.nums ≡ puts l.c (λ c. index_in (same_owner l.owner) (firsts_of (same_owner l.owner) c) c) l.initial.nums)
