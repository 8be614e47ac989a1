-- `evaluation::gather::move_words` moves the first words of a set.
-- Assumes nothing.
use mathlib.Core.Path.{◌≡◌}
use Rattle.laws.specs.Lists.{puts}
use Rattle.evaluation.specs.Agreeing.{word_at, no_word}
use Rattle.evaluation.proofs.gather.move_words.Given as goal

abbrev pub invariant-loop-q : goal.invariant-loop-q
invariant-loop-q l = (l.to ≡ puts l.q (word_at l.initial.from) l.initial.to) × (l.from ≡ puts l.q no_word l.initial.from)
