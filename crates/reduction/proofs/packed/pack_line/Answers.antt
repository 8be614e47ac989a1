-- `reduction::packed::pack_line` meets its contract.
-- Assumes nothing.
use mathlib.Core.Path.{◌≡◌, sym, ◌∙◌, ap, ap₂}
use mathlib.Core.Bool.{cond}
use mathlib.Core.List.{List}
use Prim.Native.Nat.{ℕ, ◌+◌}
use lib.Dec.{eqb}
use lib.Bits.{bit_or}
use lib.ListN.{get_or}
use Rattle.laws.proofs.Puts.{puts_none, puts-next, get_or_unput}
use native.Mathlib.Omega.{arith}
use Rattle.reduction.proofs.packed.pack_line.Goals as goal

pub loop-x-init : goal.loop-x-init
loop-x-init c = let a = c.args in sym (puts_none (λ x. bit_or (get_or a.places.now x 0) (cond (eqb (get_or a.table.now (a.base + x) 0) a.v) a.bit 0)) a.places.now)

pub loop-x-preserved : goal.loop-x-preserved
loop-x-preserved c =
    let l = c.loop-x in
    let a = c.args in
    let g : ℕ → ℕ = λ x. bit_or (get_or a.places.now x 0) (cond (eqb (get_or a.table.now (a.base + x) 0) a.v) a.bit 0) in
    let old : get_or l.places l.x 0 ≡ get_or a.places.now l.x 0 =
    ap (λ (s : List ℕ). get_or s l.x 0) l.invariant ∙ get_or_unput g l.x a.places.now 0 l.x (omega arith) in
    puts-next g l.x a.places.now l.places _ l.invariant (ap₂ bit_or old c.mark.ensures)
