-- `sheet::planes::mark_block` meets its contract.
-- Assumes nothing.
use mathlib.Core.Path.{sym, ◌≡◌, ◌∙◌, ap, ap₂}
use mathlib.Core.List.{List}
use Prim.Native.Nat.{ℕ, ◌+◌}
use native.Mathlib.Omega.{arith}
use lib.Bits.{bit_or}
use lib.ListN.{get_or}
use Rattle.laws.proofs.Puts.{puts_at-none, puts_at-next, get_or_unput_at}
use Rattle.sheet.specs.Planes.{added}
use Rattle.sheet.proofs.planes.mark_block.Goals as goal

pub loop-i-init : goal.loop-i-init
loop-i-init t c = sym (puts_at-none (λ i. bit_or (get_or c.args.plane.now (c.args.base + i) 0) (added c.args.k c.args.v c.args.f (get_or c.args.low.now.numbers i 0))) c.args.base c.args.plane.now)

pub loop-i-preserved : goal.loop-i-preserved
loop-i-preserved t c =
    let l = c.loop-i in
    let a = c.args in
    let g : ℕ → ℕ = λ i. bit_or (get_or a.plane.now (a.base + i) 0) (added a.k a.v a.f (get_or a.low.now.numbers i 0)) in
    let old : get_or l.plane (a.base + l.i) 0 ≡ get_or a.plane.now (a.base + l.i) 0 =
    ap (λ (s : List ℕ). get_or s (a.base + l.i) 0) l.invariant ∙ get_or_unput_at g a.base l.i a.plane.now 0 (a.base + l.i) (omega arith) in
    puts_at-next g a.base l.i a.plane.now l.plane _ l.invariant (ap₂ bit_or old c.added_at.ensures)

pub returns : goal.returns
returns t c =
    let l = c.loop-i in
    let e : l.i ≡ 256 = omega arith in
    rw e at l.invariant
