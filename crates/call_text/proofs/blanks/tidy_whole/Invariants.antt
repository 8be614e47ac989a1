-- `blanks::tidy_whole` meets its contract.
-- Assumes nothing.
use Rattle.call_text.proofs.TidyLaws.{TidiedTo}
use Rattle.call_text.proofs.blanks.tidy_whole.Given as goal

abbrev pub invariant-loop-at : goal.invariant-loop-at
invariant-loop-at l = TidiedTo l.text l.initial.lent l.at l.size l.s l.lent
