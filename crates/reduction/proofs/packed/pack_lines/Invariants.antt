-- `reduction::packed::pack_lines` meets its contract.
-- Assumes nothing.
use mathlib.Core.Path.{◌≡◌}
use mathlib.Core.Bool.{cond}
use Prim.Native.Nat.{◌+◌, ◌*◌, ◌^◌}
use lib.Dec.{eqb}
use lib.ListN.{get_or}
use Rattle.laws.specs.Lists.{puts}
use Rattle.laws.specs.Bits.{marks}
use Rattle.reduction.proofs.packed.pack_lines.Given as goal

abbrev pub invariant-loop-k : goal.invariant-loop-k
invariant-loop-k l = l.places ≡ puts (2 ^ l.n) (λ x. marks (get_or l.initial.places x 0) (λ k. cond (eqb (get_or l.table (k * 2 ^ l.n + x) 0) l.v) (2 ^ k) 0) l.k) l.initial.places
