-- The number of each refusal, as documents 01 and 02 list them, and an answer as a number.
-- Assumes nothing.
use Rattle.std.specs.Prelude.{ℕ, Result, Ok, Err}
use Rattle.refusals.specs.declared.Refusal.{Refusal}
use Rattle.refusals.specs.declared.Refusal.TheVariants.{OutOfRange, NotEachOnce, SheetLength, Malformed, Clash, Depends, TooWide, NoCutList}
use Rattle.refusals.specs.declared.Refusal.TheVariants.{NodesShort, RecordsShort, RowsShort, NotFormed, BankFull, OverLimit, OverEight, NotTimed}

abbrev pub number : Refusal → ℕ
number OutOfRange = 1
number NotEachOnce = 2
number SheetLength = 3
number Malformed = 4
number Clash = 5
number Depends = 6
number TooWide = 7
number NoCutList = 8
number NodesShort = 9
number RecordsShort = 10
number RowsShort = 11
number NotFormed = 12
number BankFull = 13
number OverLimit = 14
number OverEight = 15
number NotTimed = 16

-- 0 where something is accepted, else the number of the refusal
abbrev pub answered : {A : Type 0} → Result A Refusal → ℕ
answered (Ok _) = 0
answered (Err r) = number r
