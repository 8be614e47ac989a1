-- `reduction::packed::pack_line` meets its contract.
-- Assumes nothing.
use mathlib.Core.Path.{◌≡◌}
use mathlib.Core.Bool.{cond}
use Prim.Native.Nat.{◌+◌}
use lib.Dec.{eqb}
use lib.Bits.{bit_or}
use lib.ListN.{get_or}
use Rattle.laws.specs.Lists.{puts}
use Rattle.reduction.proofs.packed.pack_line.Given as goal

abbrev pub invariant-loop-x : goal.invariant-loop-x
invariant-loop-x l = l.places ≡ puts l.x (λ x. bit_or (get_or l.initial.places x 0) (cond (eqb (get_or l.table (l.base + x) 0) l.v) l.bit 0)) l.initial.places
