-- `reduction::node_words::top_values` meets its contract.
-- Assumes nothing.
use mathlib.Core.Path.{◌≡◌}
use Prim.Native.Nat.{◌*◌}
use lib.ListN.{get_or}
use Rattle.laws.specs.Lists.{puts}
use Rattle.reduction.specs.Packed.{value_in}
use Rattle.reduction.proofs.node_words.top_values.Given as goal

abbrev pub invariant-loop-c : goal.invariant-loop-c
invariant-loop-c l = l.values ≡ puts l.c (λ c. value_in (get_or l.planes.zero (c * l.size) 0) (get_or l.planes.one (c * l.size) 0) l.b) l.initial.values
