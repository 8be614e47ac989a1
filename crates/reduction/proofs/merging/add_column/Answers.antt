-- `reduction::merging::add_column` meets its contract.
-- Assumes nothing.
use mathlib.Core.Path.{◌≡◌, sym, ◌∙◌, ap}
use mathlib.Core.List.{List}
use Prim.Native.Nat.{ℕ, ◌+◌}
use lib.Bits.{bit_or}
use lib.ListN.{get_or}
use Rattle.laws.proofs.Puts.{puts_at-none, puts_at-next, get_or_unput_at}
use native.Mathlib.Omega.{arith}
use Rattle.reduction.proofs.merging.add_column.Goals as goal

pub loop-i-init : goal.loop-i-init
loop-i-init c =
    let a = c.args in sym (puts_at-none (λ i. bit_or (get_or a.to.now (a.number + i) 0) (get_or a.from.now (a.first + i) 0)) a.number a.to.now)

pub loop-i-preserved : goal.loop-i-preserved
loop-i-preserved c =
    let l = c.loop-i in
    let a = c.args in
    let g : ℕ → ℕ = λ i. bit_or (get_or a.to.now (a.number + i) 0) (get_or a.from.now (a.first + i) 0) in
    let old : get_or l.to (a.number + l.i) 0 ≡ get_or a.to.now (a.number + l.i) 0 =
    ap (λ (s : List ℕ). get_or s (a.number + l.i) 0) l.invariant
    ∙ get_or_unput_at g a.number l.i a.to.now 0 (a.number + l.i) (omega arith) in puts_at-next g a.number l.i a.to.now l.to _ l.invariant (ap (λ (x : ℕ). bit_or x (get_or a.from.now (a.first + l.i) 0)) old)
