-- What writing a line answers, as its definition says it: an error by its refusal's number.
-- Assumes nothing.
use Rattle.std.specs.Prelude.{ℕ, List, Result, Ok, Err}
use Rattle.refusals.specs.declared.Refusal.{Refusal}
use Rattle.refusals.specs.Numbers.{number}
use Rattle.block_text.specs.BlockLine.{WrittenLine}

-- the line's length, and the memory lent for it
abbrev pub line_given : Result ℕ Refusal → List ℕ → WrittenLine
line_given (Ok size) text = record { refusal = 0; size = size; text = text }
line_given (Err r) text = record { refusal = number r; size = 0; text = text }
