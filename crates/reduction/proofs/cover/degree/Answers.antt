-- `reduction::cover::degree` meets its contract.
-- Assumes nothing.
use mathlib.Core.Path.{◌≡◌, sym, ◌∙◌, ap₂}
use Prim.Native.Nat.{ℕ, ◌-◌, ◌+◌, ◌*◌}
use native.Mathlib.Omega.{arith}
use Rattle.laws.specs.Tests.{sum}
use Rattle.laws.specs.Bits.{flag}
use Rattle.laws.proofs.Counts.{sum-next, sum_at}
use Rattle.reduction_spec.specs.Cover.{is_in}
use Rattle.reduction.specs.RunningKeys.{degree}
use Rattle.reduction.proofs.cover.degree.Goals as goal

pub loop-d-preserved : goal.loop-d-preserved
loop-d-preserved c =
    let l = c.loop-d in
    let a = c.args in
    let f : ℕ → ℕ = λ i. flag (is_in a.link.now (a.c * a.w + i)) in
    (omega (arith, c.one-n.ensures.1), ap₂ (λ (x y : ℕ). x + y) l.invariant.1 c.one-n.ensures.0 ∙ sym (sum-next f l.d))

pub overflow_sub-result : goal.overflow_sub-result
overflow_sub-result c =
    let l = c.loop-d in
    let a = c.args in
    let f : ℕ → ℕ = λ i. flag (is_in a.link.now (a.c * a.w + i)) in
    let e : l.d ≡ a.w = omega arith in
    let n : l.n ≡ sum a.w f = rw e at l.invariant.1 in
    let o : c.one.result ≡ f a.c = c.one.ensures.0 in
    omega (arith, sum_at f a.w a.c (omega arith))

pub returns : goal.returns
unfolding degree
returns c =
    let l = c.loop-d in
    let a = c.args in
    let f : ℕ → ℕ = λ i. flag (is_in a.link.now (a.c * a.w + i)) in
    let e : l.d ≡ a.w = omega arith in
    let n : l.n ≡ sum a.w f = rw e at l.invariant.1 in
    let o : c.one.result ≡ f a.c = c.one.ensures.0 in
    (ap₂ (λ (x y : ℕ). x - y) n o, omega arith)
