-- `store_rows` stores rows as pairs of bytes.
-- Assumes nothing.
use mathlib.Core.Path.{◌≡◌}
use Prim.Native.Nat.{◌*◌}
use Rattle.laws.specs.Lists.{puts}
use Rattle.cutting.specs.Plan.{row_byte}
use Rattle.cutting.proofs.row_bytes.store_rows.Given as goal

abbrev pub invariant-loop-i : goal.invariant-loop-i
invariant-loop-i l = l.to ≡ puts (l.i * 2) (row_byte l.from) l.initial.to
