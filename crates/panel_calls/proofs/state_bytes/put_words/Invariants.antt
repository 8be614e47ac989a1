-- `panel_calls::state_bytes::put_words` meets its contract.
-- Assumes nothing.
use mathlib.Core.Path.{◌≡◌}
use Prim.Native.Nat.{◌*◌}
use Rattle.laws.specs.Lists.{puts_at}
use Rattle.panel_calls.specs.StateBytes.{word_byte}
use Rattle.panel_calls.proofs.state_bytes.put_words.Given as goal

abbrev pub invariant-loop-i : goal.invariant-loop-i
invariant-loop-i l = l.bytes ≡ puts_at 5 (2 * l.i) (word_byte l.words) l.initial.bytes
