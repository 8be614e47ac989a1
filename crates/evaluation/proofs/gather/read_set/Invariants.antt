-- `evaluation::gather::read_set` reads the rows of all rail words of a set.
-- Assumes nothing.
use mathlib.Core.Path.{◌≡◌}
use Rattle.laws.specs.Lists.{puts}
use Rattle.laws.specs.Turns.{in_turn}
use Rattle.evaluation.specs.Agreeing.{no_word, gathered_of, of_place}
use Rattle.evaluation.proofs.gather.read_set.Given as goal

abbrev pub invariant-loop-q : goal.invariant-loop-q
invariant-loop-q l =
    (gathered_of l.g l.next ≡ in_turn l.q (of_place l.rows l.p l.initial.set) (gathered_of l.initial.g l.initial.next)) × (l.set ≡ puts l.q no_word l.initial.set)
