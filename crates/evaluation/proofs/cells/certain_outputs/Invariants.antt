-- `evaluation::cells::certain_outputs` goes over all records.
-- Assumes nothing.
use Rattle.evaluation.specs.ReadTo.{ReadTo}
use Rattle.evaluation.proofs.cells.certain_outputs.Given as goal

abbrev pub invariant-loop-i : goal.invariant-loop-i
invariant-loop-i l = ReadTo l.asked l.i l.progress
