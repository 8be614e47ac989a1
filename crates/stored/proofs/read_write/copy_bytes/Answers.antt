-- `copy_bytes` copies as many bytes as there is room for.
-- Assumes nothing.
use mathlib.Core.Path.{◌≡◌, refl, sym, ◌∙◌, ap}
use Prim.Native.Nat.{ℕ}
use native.Mathlib.Omega.{arith}
use lib.ListN.{length, get_or, length-set}
use Rattle.laws.specs.Lists.{puts}
use Rattle.laws.proofs.Puts.{puts_none, puts-next, puts-room}
use Rattle.stored.proofs.read_write.copy_bytes.Goals as goal

pub loop-i-init : goal.loop-i-init
loop-i-init c = let a = c.args in (sym (puts_none (λ i. get_or a.from.now i 0) a.to.now), refl)

pub loop-i-preserved : goal.loop-i-preserved
loop-i-preserved c =
    let l = c.loop-i in
    let a = c.args in
    (puts-next (λ i. get_or a.from.now i 0) l.i a.to.now l.to _ l.invariant.0 refl, length-set l.to l.i _ ∙ l.invariant.1)

pub returns : goal.returns
returns c =
    let l = c.loop-i in
    let a = c.args in
    let m = c.min-count in
    let F : ℕ → ℕ = λ i. get_or a.from.now i 0 in
    let n = length a.from.now in
    let e : l.i ≡ m.result = omega arith in
    l.invariant.0 ∙ ap (λ (x : ℕ). puts x F a.to.now) (e ∙ m.ensures) ∙ puts-room F n a.to.now
