-- What the functions of the crate answer, as the definitions say it: an error by its refusal's number, and nothing where there is none.
-- Assumes nothing.
use Rattle.std.specs.Prelude.{ℕ, true, false, cond, length, List, Option, Some, None, Result, Ok, Err}
use Rattle.refusals.specs.declared.Refusal.{Refusal}
use Rattle.refusals.specs.Numbers.{number}
use Rattle.call_text.specs.declared.CallKind.{CallKind}
use Rattle.call_text.specs.declared.CallKind.TheVariants.{Bank, Admit, Latch, Step}
use Rattle.call_text.specs.declared.KnownInputs.{KnownInputs}
use Rattle.call_text.specs.declared.TextRead.{TextRead}
use Rattle.call_text.specs.Known.{KnownRead}
use Rattle.call_text.specs.Lines.{Line, Read}
use Rattle.call_text.specs.Tidy.{Tidied}

-- how many bytes the call of a line has, where the line can be read
abbrev pub line_size : Line → Option ℕ
line_size l = cond l.good (Some (length l.code)) None

-- a tidied text's length, and the memory lent for it
abbrev pub tidy_given : Result ℕ Refusal → List ℕ → Tidied
tidy_given (Ok size) text = record { refusal = 0; size = size; text = text }
tidy_given (Err r) text = record { refusal = number r; size = 0; text = text }

-- the bytes of row memory, 65,537 where the first line says none
abbrev pub memory_given : Option ℕ → ℕ
memory_given (Some n) = n
memory_given None = 65537

-- the number of the line that can't be read, 0 where there is none
abbrev pub bad_given : Option ℕ → ℕ
bad_given (Some n) = n
bad_given None = 0

-- what reading a text gave, and the memory lent for the calls
abbrev pub text_given : Result TextRead Refusal → List ℕ → Read
text_given (Ok read) code = record { refusal = 0; size = read.size; bad_line = bad_given read.bad; code = code }
text_given (Err r) code = record { refusal = number r; size = 0; bad_line = 0; code = code }

-- the number of the call that was meant, 0 for any
abbrev pub wanted_given : Option CallKind → ℕ
wanted_given (Some Bank) = 1
wanted_given (Some Admit) = 2
wanted_given (Some Latch) = 3
wanted_given (Some Step) = 4
wanted_given None = 0

-- which inputs are known, and their values
abbrev pub known_given : Option KnownInputs → KnownRead
known_given (Some k) = record { good = true; known = k.known; word = k.word }
known_given None = record { good = false; known = 0; word = 0 }
