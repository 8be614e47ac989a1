-- `reduction::links::link_rows` meets its contract.
-- Assumes nothing.
use mathlib.Core.Path.{◌≡◌}
use lib.Seq.{sets}
use Rattle.laws.specs.Tests.{any}
use Rattle.laws.specs.Lists.{rect}
use Rattle.laws.specs.Bits.{flag}
use Rattle.reduction.specs.Distinct.{linked_words}
use Rattle.reduction.proofs.links.link_rows.Given as goal

abbrev pub invariant-loop-c : goal.invariant-loop-c
invariant-loop-c l =
    (l.found ≡ any l.c (λ k. any l.w (linked_words l.planes.zero l.planes.one l.size l.firsts k)))
    × (l.link ≡ sets l.initial.link 0 (rect l.c l.w (λ k d. flag (linked_words l.planes.zero l.planes.one l.size l.firsts k d))))
