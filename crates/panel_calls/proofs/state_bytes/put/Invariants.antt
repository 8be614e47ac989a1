-- `panel_calls::state_bytes::put` meets its contract.
-- Assumes nothing.
use mathlib.Core.Path.{◌≡◌}
use lib.ListN.{get_or}
use Rattle.laws.specs.Lists.{puts_at}
use Rattle.panel_calls.proofs.state_bytes.put.Given as goal

abbrev pub invariant-loop-i : goal.invariant-loop-i
invariant-loop-i g l = l.bytes ≡ puts_at l.at l.i (λ k. get_or l.part k 0) l.initial.bytes
