-- `Picture::draw_nodes` counts columns, no more than nodes.
-- Assumes nothing.
use Rattle.std.proofs.Common.{◌≤◌}
use Rattle.drawing.proofs.Picture.draw_nodes.Given as goal

abbrev pub invariant-loop-i : goal.invariant-loop-i
invariant-loop-i l = l.column ≤ l.i
