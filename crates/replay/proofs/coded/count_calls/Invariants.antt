-- `replay::coded::count_calls` meets its contract.
-- Assumes nothing.
use mathlib.Core.Path.{◌≡◌}
use Prim.Native.Nat.{◌+◌}
use lib.ListN.{length}
use Rattle.replay.specs.Coded.{calls_in, readable}
use Rattle.replay.proofs.coded.count_calls.Given as goal

abbrev pub invariant-loop-n : goal.invariant-loop-n
invariant-loop-n l = (l.calls + length (calls_in l.rest) ≡ length (calls_in l.list)) × (readable l.rest ≡ readable l.list)

abbrev pub decreases-loop-n : goal.decreases-loop-n
decreases-loop-n l = length l.rest
