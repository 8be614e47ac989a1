-- `sheet::planes::spread` meets its contract.
-- Assumes nothing.
use mathlib.Core.Path.{◌≡◌, sym, ◌∙◌}
use Prim.Native.Nat.{◌%◌}
use native.Mathlib.Omega.{arith}
use lib.Bits.{bit_or}
use lib.ListN.{get_or}
use Rattle.laws.proofs.Puts.{puts_none}
use Rattle.sheet.proofs.planes.PlaceBlocks.{spread_next}
use Rattle.sheet.proofs.planes.spread.Goals as goal

pub loop-b-init : goal.loop-b-init
loop-b-init c =
    let a = c.args in
    sym (puts_none (λ x. bit_or (get_or a.plane.now x 0) (get_or a.row.now (x % 256) 0)) a.plane.now)

pub loop-b-preserved : goal.loop-b-preserved
loop-b-preserved c =
    let l = c.loop-b in
    let a = c.args in
    c.spread_block.ensures ∙ spread_next a.plane.now a.row.now l.plane l.b l.invariant

pub returns : goal.returns
returns c =
    let l = c.loop-b in
    let e : l.b ≡ 16 = omega arith in
    rw e at l.invariant
