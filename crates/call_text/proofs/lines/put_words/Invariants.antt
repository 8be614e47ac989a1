-- `call_text::lines::put_words` meets its contract.
-- Assumes nothing.
use mathlib.Core.Path.{◌≡◌}
use Rattle.laws.specs.Lists.{puts_at}
use Rattle.call_text.proofs.CallLaws.{word_byte}
use Rattle.call_text.proofs.lines.put_words.Given as goal

abbrev pub invariant-loop-i : goal.invariant-loop-i
invariant-loop-i l = l.code ≡ puts_at l.at l.i (word_byte l.rest) l.initial.code
