-- `evaluation::gather::read_word` reads the rows of the rail words in one word of the set.
-- Assumes nothing.
use mathlib.Core.Path.{◌≡◌}
use Prim.Native.Nat.{◌-◌, ◌/◌, ◌^◌, ◌≤◌}
use Rattle.laws.specs.Turns.{in_turn}
use Rattle.evaluation.specs.Agreeing.{gathered_of, of_bit}
use Rattle.evaluation.proofs.gather.read_word.Given as goal

abbrev pub invariant-loop-rest : goal.invariant-loop-rest
invariant-loop-rest l =
    (l.b ≤ 64) × (l.rest ≡ l.word / 2 ^ l.b) × (gathered_of l.g l.next ≡ in_turn l.b (of_bit l.rows l.p l.word l.base) (gathered_of l.initial.g l.initial.next))

abbrev pub decreases-loop-rest : goal.decreases-loop-rest
decreases-loop-rest l = 64 - l.b
