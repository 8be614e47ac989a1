-- `evaluation::gather::read_few` reads the rows of one rail word, where the rail words below are few.
-- Assumes nothing.
use mathlib.Core.Path.{◌≡◌}
use mathlib.Core.List.{List}
use Prim.Native.Nat.{ℕ}
use Rattle.laws.specs.Turns.{in_turn}
use Rattle.evaluation.specs.Agreeing.{gathered_of, part_of, rail_row}
use Rattle.evaluation.proofs.gather.FewRails.{few_as}
use Rattle.evaluation.proofs.gather.read_few.Given as goal

abbrev pub invariant-loop-j : goal.invariant-loop-j
invariant-loop-j l =
    (l.part ≡ part_of l.p.mask l.p.free l.j)
    × ((s : List ℕ) → few_as l.g.some l.g.each l.rails s ≡ in_turn l.j (rail_row l.rows l.first l.p.mask l.p.free l.p.low) (gathered_of l.initial.g s))
