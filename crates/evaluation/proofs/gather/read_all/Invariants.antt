-- `evaluation::gather::read_all` reads rows that stand one after another.
-- Assumes nothing.
use mathlib.Core.Path.{◌≡◌}
use mathlib.Core.List.{List}
use Prim.Native.Nat.{ℕ}
use Rattle.laws.specs.Turns.{in_turn}
use Rattle.evaluation.specs.Agreeing.{gathered_of, plain_row}
use Rattle.evaluation.proofs.gather.FewRails.{few_as, one_rail}
use Rattle.evaluation.proofs.gather.read_all.Given as goal

abbrev pub invariant-loop-j : goal.invariant-loop-j
invariant-loop-j l =
    (s : List ℕ) → few_as l.g.some l.g.each (one_rail l.j) s ≡ in_turn l.j (plain_row l.rows l.first 0) (gathered_of l.initial.g s)
