-- `reduction::pass::all_heights` meets its contract.
-- Assumes nothing.
use mathlib.Core.List.{List}
use Prim.Native.Nat.{ℕ}
use Rattle.sheet_spec.specs.Given.{job_given}
use Rattle.reduction.proofs.pass.Loop.{Begun, AtHeight}
use Rattle.reduction.proofs.pass.all_heights.Given as goal

abbrev pub invariant-loop-k : goal.invariant-loop-k
invariant-loop-k l =
    (s : List ℕ) → Begun (job_given l.job) s l.initial.planes.zero l.initial.planes.one → AtHeight (job_given l.job) s l.k l.a l.w l.at l.planes.zero l.planes.one l.link l.widths l.words
