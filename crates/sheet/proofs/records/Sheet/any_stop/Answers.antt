-- `sheet::records::Sheet::any_stop` meets its contract.
-- Assumes nothing.
use mathlib.Core.Path.{◌≡◌, refl}
use Prim.Native.Nat.{◌/◌}
use native.Mathlib.Omega.{arith}
use lib.Dec.{eqb}
use lib.ListN.{length}
use Rattle.laws.proofs.Tests.{any_step}
use Rattle.sheet_spec.specs.Records.{kind, stop}
use Rattle.sheet.specs.Planes.{any_stop}
use Rattle.sheet.proofs.records.Sheet.any_stop.Goals as goal

pub loop-r-preserved : goal.loop-r-preserved
loop-r-preserved c =
    let l = c.loop-r in
    let s = c.args.self.now.bytes.now in
    any_step (λ k. eqb (kind s k) stop) l.r l.invariant refl

pub returns : goal.returns
unfolding any_stop
returns c =
    let e : c.loop-r.r ≡ length c.args.self.now.bytes.now / 8 = omega arith in
    rw e at c.loop-r.invariant
