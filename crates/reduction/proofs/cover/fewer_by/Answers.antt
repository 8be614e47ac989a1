-- `reduction::cover::fewer_by` meets its contract.
-- Assumes nothing.
use mathlib.Core.Path.{sym, ◌∙◌, ap}
use Prim.Native.Nat.{ℕ, ◌-◌, ◌*◌, ◌/◌, min}
use native.Mathlib.Omega.{arith}
use Rattle.reduction.specs.RunningKeys.{fewer_by}
use Rattle.reduction.proofs.cover.CliqueLeaves.{fewer-gone, fewer_taken}
use Rattle.reduction.proofs.cover.fewer_by.Goals as goal

pub returns-then-k-eq-GONE : goal.returns-then-k-eq-GONE
returns-then-k-eq-GONE c =
    let a = c.args in
    sym (ap (fewer_by a.j) c.if-k-eq-GONE.true ∙ fewer-gone a.j)

pub returns : goal.returns
returns c =
    let a = c.args in
    let e = c.min-taken.ensures ∙ ap (λ (x : ℕ). min x (a.k / 512)) c.from.ensures in
    ap (λ (x : ℕ). a.k - x * 512) e ∙ fewer_taken a.j a.k (omega arith)
