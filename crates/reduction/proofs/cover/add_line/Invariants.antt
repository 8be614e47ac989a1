-- `reduction::cover::add_line` meets its contract.
-- Assumes nothing.
use mathlib.Core.Path.{◌≡◌}
use Prim.Native.Nat.{◌+◌}
use lib.ListN.{get_or}
use Rattle.laws.specs.Bits.{flag}
use Rattle.laws.specs.Lists.{puts}
use Rattle.reduction_spec.specs.Cover.{is_in}
use Rattle.reduction.proofs.cover.add_line.Given as goal

abbrev pub invariant-loop-d : goal.invariant-loop-d
invariant-loop-d l = l.tally ≡ puts l.d (λ i. get_or l.initial.tally i 0 + flag (is_in l.link (l.base + i))) l.initial.tally
