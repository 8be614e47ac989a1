-- `evaluation::gather::read_rail` reads the rows of one rail word.
-- Assumes nothing.
use mathlib.Core.Path.{◌≡◌}
use Rattle.laws.specs.Turns.{in_turn}
use Rattle.evaluation.specs.Agreeing.{gathered_of, part_of, rail_row}
use Rattle.evaluation.proofs.gather.read_rail.Given as goal

abbrev pub invariant-loop-j : goal.invariant-loop-j
invariant-loop-j l =
    (l.part ≡ part_of l.p.mask l.p.free l.j) × (gathered_of l.g l.next ≡ in_turn l.j (rail_row l.rows l.first l.p.mask l.p.free l.p.low) (gathered_of l.initial.g l.initial.next))
