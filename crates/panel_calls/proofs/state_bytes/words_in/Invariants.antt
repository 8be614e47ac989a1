-- `panel_calls::state_bytes::words_in` meets its contract.
-- Assumes nothing.
use mathlib.Core.Path.{◌≡◌}
use Prim.Native.Nat.{◌+◌, ◌*◌}
use Rattle.laws.specs.Lists.{puts}
use Rattle.panel_calls.specs.StateBytes.{pair_at}
use Rattle.panel_calls.proofs.state_bytes.words_in.Given as goal

abbrev pub invariant-loop-i : goal.invariant-loop-i
invariant-loop-i l = l.words ≡ puts l.i (λ k. pair_at l.bytes (5 + 2 * k)) l.initial.words
