-- `sheet::planes::spread_block` meets its contract.
-- Assumes nothing.
use mathlib.Core.Path.{◌≡◌, sym, ◌∙◌, ap}
use mathlib.Core.List.{List}
use Prim.Native.Nat.{ℕ, ◌+◌}
use native.Mathlib.Omega.{arith}
use lib.Bits.{bit_or}
use lib.ListN.{get_or}
use Rattle.laws.proofs.Puts.{puts_at-none, puts_at-next, get_or_unput_at}
use Rattle.sheet.proofs.planes.spread_block.Goals as goal

pub loop-i-init : goal.loop-i-init
loop-i-init c =
    let a = c.args in
    sym (puts_at-none (λ i. bit_or (get_or a.plane.now (a.base + i) 0) (get_or a.row.now i 0)) a.base a.plane.now)

pub loop-i-preserved : goal.loop-i-preserved
loop-i-preserved c =
    let l = c.loop-i in
    let a = c.args in
    let g : ℕ → ℕ = λ i. bit_or (get_or a.plane.now (a.base + i) 0) (get_or a.row.now i 0) in
    let old : get_or l.plane (a.base + l.i) 0 ≡ get_or a.plane.now (a.base + l.i) 0 =
    ap (λ (s : List ℕ). get_or s (a.base + l.i) 0) l.invariant ∙ get_or_unput_at g a.base l.i a.plane.now 0 (a.base + l.i) (omega arith) in
    puts_at-next g a.base l.i a.plane.now l.plane _ l.invariant (ap (λ (x : ℕ). bit_or x (get_or a.row.now l.i 0)) old)

pub returns : goal.returns
returns c =
    let l = c.loop-i in
    let e : l.i ≡ 256 = omega arith in
    rw e at l.invariant
