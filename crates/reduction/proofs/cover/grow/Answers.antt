-- `reduction::cover::grow` meets its contract.
-- Assumes nothing.
use mathlib.Core.Path.{◌≡◌, sym, ◌∙◌, ap}
use Prim.Native.Nat.{ℕ, ◌+◌, ◌-◌}
use native.Mathlib.Nat.{sub-zero}
use native.Mathlib.Omega.{arith}
use Rattle.reduction.specs.RunningKeys.{Growth, joining, growing}
use Rattle.reduction.proofs.cover.KeySteps.{growing-stop, growing_more}
use Rattle.reduction.proofs.cover.grow.Goals as goal

pub loop-count-init : goal.loop-count-init
loop-count-init c = (c.requires.1, rw sub-zero)

pub returns-then-k : goal.returns-then-k
returns-then-k c =
    let l = c.loop-count in
    let a = c.args in
    let s : Growth = record { cand = l.cand; members = l.members; count = l.count } in
    sym (growing-stop a.w a.link.now a.w l.count l.k s (omega arith) l.invariant.0 c.if-k.true) ∙ l.invariant.1

pub loop-count-preserved : goal.loop-count-preserved
loop-count-preserved c =
    let l = c.loop-count in
    let a = c.args in
    let s : Growth = record { cand = l.cand; members = l.members; count = l.count } in
    let u = c.column in
    let other = c.if-k.false in (
      c.least_key-k.ensures,
      ap (growing a.w a.link.now (a.w - (l.count + 1)))
          (c.join.ensures ∙ ap (λ (x : ℕ). joining a.w a.link.now x s) u.ensures.0)
          ∙ sym (growing_more a.w a.link.now a.w l.count l.k s (omega arith) l.invariant.0 other) ∙ l.invariant.1,
    )

pub returns : goal.returns
unfolding growing
returns c =
    let l = c.loop-count in
    let z : c.args.w - l.count ≡ 0 = omega arith in
    let e : l.count ≡ c.args.w = omega arith in
    ap (λ (n : ℕ). record { cand = l.cand; members = l.members; count = n }) (sym e) ∙ (rw z at l.invariant.1)
