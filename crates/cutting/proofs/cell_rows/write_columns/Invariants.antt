-- The loops of `cutting::cell_rows::write_columns`.
-- Assumes nothing.
use mathlib.Core.Path.{◌≡◌}
use Prim.Native.Nat.{◌*◌}
use Rattle.laws.specs.Lists.{puts_at}
use Rattle.cutting.specs.RowWalks.{walked_row}
use Rattle.cutting.proofs.cell_rows.write_columns.Given as goal

abbrev pub invariant-loop-c : goal.invariant-loop-c
invariant-loop-c l = l.rows ≡ puts_at l.at (l.c * l.size) (walked_row l.span.diagram.words.now l.span.diagram.order.now l.span.top l.span.bottom l.span.upper l.span.width l.span.lower l.span.rails l.span.count) l.initial.rows
