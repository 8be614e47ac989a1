-- `sheet::depends::far` meets its contract.
-- Assumes nothing.
use mathlib.Core.Path.{◌≡◌}
use Prim.Native.Nat.{◌+◌}
use native.Mathlib.Omega.{arith}
use Rattle.sheet.specs.Depends.{apart_at}
use Rattle.sheet.proofs.depends.TurnedPlaces.{marks-first, far_step}
use Rattle.sheet.proofs.depends.far.Goals as goal

pub loop-i-init : goal.loop-i-init
loop-i-init c =
    let a = c.args in
    marks-first a.d (λ k. apart_at a.planes.now.zeros a.planes.now.ones (a.base + k) (a.base + a.step + k))

pub loop-i-preserved : goal.loop-i-preserved
loop-i-preserved c =
    let l = c.loop-i in
    let a = c.args in
    far_step a.planes.now.zeros a.planes.now.ones a.d a.base l.i l.found _ a.step l.invariant c.apart-found.ensures

pub returns : goal.returns
returns c =
    let l = c.loop-i in
    let e : l.i ≡ 256 = omega arith in
    rw e at l.invariant
