-- `widen_rows` stores each byte and then 0.
-- Assumes nothing.
use mathlib.Core.Path.{◌≡◌}
use mathlib.Core.List.{List}
use Prim.Native.Nat.{ℕ, ◌*◌}
use lib.ListN.{length, get_or}
use Rattle.laws.specs.Lists.{puts}
use Rattle.stored_spec.specs.RowBytes.{one_byte, two_bytes}
use Rattle.row_forms_spec.specs.Moves.{moved_rows}
use Rattle.row_forms.proofs.widening.widen_rows.Given as goal

-- the byte that comes to place n
abbrev pub moved : List ℕ → ℕ → ℕ
moved from n = get_or (moved_rows one_byte two_bytes from) n 0

abbrev pub invariant-loop-i : goal.invariant-loop-i
invariant-loop-i l = (l.to ≡ puts (l.i * 2) (moved l.from) l.initial.to) × (length l.to ≡ length l.initial.to)
