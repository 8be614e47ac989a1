-- `bank::latching::words_kept` meets its contract.
-- Assumes nothing.
use mathlib.Core.Path.{◌≡◌}
use Rattle.laws.specs.Lists.{puts}
use Rattle.bank.proofs.latching.LatchCases.{word_in}
use Rattle.bank.proofs.latching.words_kept.Given as goal

abbrev pub invariant-loop-b : goal.invariant-loop-b
invariant-loop-b l = l.kept ≡ puts l.b (word_in l.blocks.bank.now l.number l.old l.words) l.initial.kept
