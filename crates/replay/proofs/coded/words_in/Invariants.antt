-- `replay::coded::words_in` meets its contract.
-- Assumes nothing.
use mathlib.Core.Path.{◌≡◌}
use Prim.Native.Nat.{◌+◌, ◌*◌}
use Rattle.laws.specs.Lists.{filled}
use Rattle.replay.specs.Coded.{pair}
use Rattle.replay.proofs.coded.words_in.Given as goal

abbrev pub invariant-loop-b : goal.invariant-loop-b
invariant-loop-b l = l.words ≡ filled l.b (λ k. pair l.list (1 + 2 * k)) l.initial.words
