-- `words::put_bytes` meets its contract.
-- Assumes nothing.
use mathlib.Core.Path.{◌≡◌}
use Prim.Native.Nat.{◌*◌}
use Rattle.laws.specs.Lists.{puts_at}
use Rattle.call_text.specs.Words.{hex_byte}
use Rattle.call_text.proofs.words.put_bytes.Given as goal

abbrev pub invariant-loop-i : goal.invariant-loop-i
invariant-loop-i l = l.code ≡ puts_at l.at l.i (λ k. hex_byte l.text (2 * k)) l.initial.code
