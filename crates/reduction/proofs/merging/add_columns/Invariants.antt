-- `reduction::merging::add_columns` meets its contract.
-- Assumes nothing.
use mathlib.Core.Path.{◌≡◌}
use Rattle.reduction.specs.Packed.{added_columns}
use Rattle.reduction.proofs.merging.add_columns.Given as goal

abbrev pub invariant-loop-c : goal.invariant-loop-c
invariant-loop-c l = l.to ≡ added_columns l.size l.firsts l.nums l.from l.c l.initial.to
