-- `sheet::depends::any_depends` meets its contract.
-- Assumes nothing.
use mathlib.Core.Bool.{not}
use mathlib.Core.Path.{◌≡◌}
use lib.ListN.{get_or}
use lib.Bits.{bit_and}
use lib.Dec.{eqb}
use Rattle.laws.specs.Tests.{any}
use Rattle.sheet.specs.Depends.{apart_across, above_mask}
use Rattle.sheet.proofs.depends.any_depends.Given as goal

abbrev pub invariant-loop-q : goal.invariant-loop-q
invariant-loop-q l = l.found ≡ any l.q (λ k. not (eqb (bit_and (apart_across l.planes.zeros l.planes.ones l.job.n k) (above_mask l.job.order.now l.job.m (get_or l.inputs k 0))) 0))
