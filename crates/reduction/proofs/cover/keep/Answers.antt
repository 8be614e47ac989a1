-- `reduction::cover::keep` meets its contract.
-- Assumes nothing.
use mathlib.Core.Path.{◌≡◌, sym, ◌∙◌, ap}
use mathlib.Core.List.{List}
use Prim.Native.Nat.{ℕ, ◌+◌}
use native.Mathlib.Omega.{arith}
use lib.ListN.{get_or}
use Rattle.laws.proofs.Puts.{puts_none, puts-next, get_or_unput}
use Rattle.reduction.specs.RunningKeys.{keeping}
use Rattle.reduction.proofs.cover.keep.Goals as goal

pub loop-d-init : goal.loop-d-init
loop-d-init c =
    let a = c.args in
    sym (puts_none (λ i. keeping (get_or a.link.now (a.base + i) 0) (get_or a.cand.now i 0)) a.cand.now)

pub loop-d-preserved : goal.loop-d-preserved
loop-d-preserved c =
    let l = c.loop-d in
    let a = c.args in
    let g : ℕ → ℕ = λ i. keeping (get_or a.link.now (a.base + i) 0) (get_or a.cand.now i 0) in
    let old : get_or l.cand l.d 0 ≡ get_or a.cand.now l.d 0 =
    ap (λ (s : List ℕ). get_or s l.d 0) l.invariant ∙ get_or_unput g l.d a.cand.now 0 l.d (omega arith) in
    puts-next g l.d a.cand.now l.cand _ l.invariant (c.keeping.ensures ∙ ap (keeping (get_or a.link.now (a.base + l.d) 0)) old)
