-- `sheet::depends::above_mask` meets its contract.
-- Assumes nothing.
use mathlib.Core.Path.{◌≡◌}
use Prim.Native.Nat.{◌^◌, ◌<◌}
use Rattle.sheet.specs.Depends.{above_mask}
use Rattle.sheet.proofs.depends.above_mask.Given as goal

abbrev pub invariant-loop-o : goal.invariant-loop-o
invariant-loop-o l = (l.mask < 2 ^ l.o) × (l.mask ≡ above_mask l.job.order.now l.o l.v)
