-- `reduction::cover::lower` meets its contract.
-- Assumes nothing.
use mathlib.Core.Path.{◌≡◌, sym, ◌∙◌, ap}
use mathlib.Core.List.{List}
use Prim.Native.Nat.{ℕ}
use native.Mathlib.Omega.{arith}
use lib.ListN.{get_or}
use Rattle.laws.proofs.Puts.{puts_none, puts-next, get_or_unput}
use Rattle.reduction.specs.RunningKeys.{fewer_by}
use Rattle.reduction.proofs.cover.lower.Goals as goal

pub loop-c-init : goal.loop-c-init
loop-c-init c =
    let a = c.args in
    sym (puts_none (λ i. fewer_by (get_or a.tally.now i 0) (get_or a.keys.now i 0)) a.keys.now)

pub loop-c-preserved : goal.loop-c-preserved
loop-c-preserved c =
    let l = c.loop-c in
    let a = c.args in
    let g : ℕ → ℕ = λ i. fewer_by (get_or a.tally.now i 0) (get_or a.keys.now i 0) in
    let old : get_or l.keys l.c 0 ≡ get_or a.keys.now l.c 0 =
    ap (λ (s : List ℕ). get_or s l.c 0) l.invariant ∙ get_or_unput g l.c a.keys.now 0 l.c (omega arith) in
    puts-next g l.c a.keys.now l.keys _ l.invariant (c.fewer_by.ensures ∙ ap (fewer_by (get_or a.tally.now l.c 0)) old)
