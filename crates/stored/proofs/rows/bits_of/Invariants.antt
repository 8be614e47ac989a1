-- `bits_of` puts the rows over one another.
-- Assumes nothing.
use mathlib.Core.Path.{◌≡◌}
use Rattle.laws.specs.Bits.{marks}
use Rattle.stored_spec.specs.RowBytes.{row_value}
use Rattle.stored.proofs.rows.bits_of.Given as goal

abbrev pub invariant-loop-i : goal.invariant-loop-i
invariant-loop-i g l = l.seen ≡ marks 0 (row_value g.row.SIZE l.rows) l.i
