-- `sheet::lines::write_lines` meets its contract.
-- Assumes nothing.
use mathlib.Core.Path.{◌≡◌}
use Prim.Native.Nat.{◌^◌}
use lib.Seq.{sets}
use Rattle.laws.specs.Lists.{rect}
use Rattle.sheet.specs.Planes.{line_at}
use Rattle.sheet.proofs.lines.write_lines.Given as goal

abbrev pub invariant-loop-k : goal.invariant-loop-k
invariant-loop-k l = l.table ≡ sets l.initial.table 0 (rect l.k (2 ^ l.job.n) (line_at l.planes.zeros l.planes.ones l.list))
