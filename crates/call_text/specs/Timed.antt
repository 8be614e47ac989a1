-- A period and a phase that a text says.
-- Assumes nothing.
use Rattle.std.specs.Prelude.{ℕ, ◌+◌, cond, ◌&&◌, List, Option, Some, None, take, drop}
use Rattle.call_text.specs.declared.admissions.Times.{Times}
use Rattle.call_text.specs.Words.{decimal}
use Rattle.call_text.specs.Lines.{space_in, is_byte_number}

-- the period before the first space, the phase after it
abbrev pub times_of : List ℕ → List ℕ → Option Times
times_of period phase = cond (is_byte_number period && is_byte_number phase) (Some (record { period = decimal period; phase = decimal phase })) None

unfoldable pub times_in : List ℕ → Option Times
times_in l = times_of (take (space_in l) l) (drop (space_in l + 1) l)
