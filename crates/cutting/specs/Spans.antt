-- The rows of a cell by the part of the diagram that it is made of.
-- Assumes nothing.
use Rattle.std.specs.Prelude.{ℕ, List, length}
use Rattle.reduction_spec.specs.Descent.{descend}
use Rattle.cutting.specs.Plan.{row_between, Writable, rows_stored}
use Rattle.cutting.specs.Levels.{Level, rails_of, inputs_of}
use Rattle.cutting.specs.RowWalks.{row_from, node_row, walked_row}
use Rattle.cutting.specs.declared.diagram.Diagram.{Diagram}
use Rattle.cutting.specs.declared.cell_rows.Span.{Span}

-- of the node v, k heights above the lower cut, for the inputs x, of which the lowest count are still to be read
abbrev pub block_row : Span → ℕ → ℕ → ℕ → ℕ → ℕ → ℕ
block_row s k v count o x = row_from s.lower s.rails (descend s.diagram.words.now s.diagram.order.now s.bottom k v x count o)

-- of the node v at the upper cut
abbrev pub column_row : Span → ℕ → ℕ → ℕ
column_row s = node_row s.diagram.words.now s.diagram.order.now s.top s.bottom s.lower s.rails s.count

abbrev pub span_row : Span → ℕ → ℕ
span_row s = walked_row s.diagram.words.now s.diagram.order.now s.top s.bottom s.upper s.width s.lower s.rails s.count

-- the cell between the cuts a and b can be written; its row x
abbrev pub CellWritable : Diagram → List Level → ℕ → ℕ → Type 0
CellWritable d ls = Writable (length d.order.now) d.words.now d.order.now d.widths.now (rails_of ls) (inputs_of ls)

abbrev pub cell_row : Diagram → List Level → ℕ → ℕ → ℕ → ℕ
cell_row d ls = row_between (length d.order.now) d.words.now d.order.now d.widths.now (rails_of ls) (inputs_of ls)

-- the list l after the rows of the first n cells are stored
abbrev pub cells_stored : Diagram → List Level → List ℕ → ℕ → List ℕ → List ℕ
cells_stored d ls = rows_stored (length d.order.now) d.words.now d.order.now d.widths.now (rails_of ls) (inputs_of ls)
