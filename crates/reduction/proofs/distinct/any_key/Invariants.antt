-- `reduction::distinct::any_key` meets its contract.
-- Assumes nothing.
use mathlib.Core.Path.{◌≡◌}
use lib.Dec.{eqb}
use lib.ListN.{get_or}
use Rattle.laws.specs.Tests.{any}
use Rattle.laws.specs.Bits.{flag}
use Rattle.reduction.proofs.distinct.any_key.Given as goal

abbrev pub invariant-loop-c : goal.invariant-loop-c
invariant-loop-c l = l.found ≡ flag (any l.c (λ c. eqb (get_or l.keys c 0) l.k))
