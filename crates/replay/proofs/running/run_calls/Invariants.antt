-- `replay::running::run_calls` meets its contract.
-- Assumes nothing.
use mathlib.Core.Path.{◌≡◌}
use mathlib.Core.Bool.{true}
use Prim.Native.Nat.{◌≤◌, ◌+◌, ◌*◌}
use lib.ListN.{length}
use Rattle.bank_spec.specs.State.{fresh, state_of}
use Rattle.replay.specs.Coded.{calls_in, readable}
use Rattle.replay.proofs.Traces.{ran}
use Rattle.replay.proofs.running.run_calls.Given as goal

abbrev pub invariant-loop-n : goal.invariant-loop-n
invariant-loop-n l =
    (readable l.rest ≡ true) × (l.written + 68 * length (calls_in l.rest) ≤ length l.trace)
    × (length l.rows ≡ length l.initial.rows) × (length l.trace ≡ length l.initial.trace)
    × (ran (state_of l.bank l.scan l.rows) (calls_in l.rest) l.written l.trace ≡ ran (fresh 0 l.initial.rows) (calls_in l.list) 0 l.initial.trace)

abbrev pub decreases-loop-n : goal.decreases-loop-n
decreases-loop-n l = length l.rest
