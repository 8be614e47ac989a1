-- `replay::running::write_outputs` meets its contract.
-- Assumes nothing.
use mathlib.Core.Path.{◌≡◌}
use mathlib.Core.Bool.{cond}
use Prim.Native.Nat.{ℕ, ◌*◌}
use mathlib.Core.List.{List}
use lib.Dec.{ltb}
use lib.ListN.{get_or}
use Rattle.laws.specs.Lists.{puts_at}
use Rattle.replay.proofs.running.write_outputs.Given as goal

abbrev pub byte_of : ℕ → List ℕ → ℕ → ℕ
byte_of count outputs i = cond (ltb i (8 * count)) (get_or outputs i 0) 2

abbrev pub invariant-loop-i : goal.invariant-loop-i
invariant-loop-i l = l.trace ≡ puts_at l.at l.i (byte_of l.count l.outputs) l.initial.trace
