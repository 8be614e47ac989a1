-- `reduction::packed::pack_words` meets its contract.
-- Assumes nothing.
use mathlib.Core.Path.{◌≡◌}
use Rattle.laws.specs.Lists.{puts}
use Rattle.reduction.specs.Packed.{packed_word}
use Rattle.reduction.proofs.packed.pack_words.Given as goal

abbrev pub invariant-loop-i : goal.invariant-loop-i
invariant-loop-i l = l.words ≡ puts l.i (packed_word l.places) l.initial.words
