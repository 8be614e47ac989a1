-- `sheet::depends::block` meets its contract.
-- Assumes nothing.
use mathlib.Core.Path.{◌≡◌, sym, ◌∙◌, ap, ap₂}
use Prim.Native.Nat.{ℕ, ◌+◌, ◌*◌, ◌^◌, ◌≤◌, ◌/◌, ◌%◌}
use native.Mathlib.Omega.{arith}
use Rattle.laws.specs.Bits.{marks}
use Rattle.sheet.proofs.Shifts.{shifted}
use Rattle.sheet.specs.Depends.{turned_at}
use Rattle.sheet.proofs.depends.TurnedPlaces.{near_is, far_is, far_none, far_fits}
use Rattle.sheet.proofs.depends.block.Goals as goal

pub returns-then-q-k : goal.returns-then-q-k
returns-then-q-k c =
    let a = c.args in
    c.near.ensures ∙ near_is a.planes.now.zeros a.planes.now.ones a.k a.q a.b c.if-q-k.true a.d _ (ap (λ (x : ℕ). a.b * x) (shifted a.k 18446744073709551616 (omega (arith, c.requires.0)) (omega arith)))

pub far-requires : goal.far-requires
far-requires c =
    let a = c.args in
    let p = c.requires in
    let k8 : a.k ≡ 8 = p.2 c.if-q-k.false in
    let size : (1 * 2 ^ a.k % 18446744073709551616) ≡ 256 = (shifted a.k 18446744073709551616 (omega (arith, c.requires.0)) (omega arith)) ∙ ap (λ (x : ℕ). 2 ^ x) k8 in
    let here : a.b * (1 * 2 ^ a.k % 18446744073709551616) ≡ a.b * 256 = ap (λ (x : ℕ). a.b * x) size in
    let fits : a.b * 256 + 256 ≤ 4096 = omega (arith, p.3, ap (λ (x : ℕ). a.b * 2 ^ x + 2 ^ x) k8) in
    let even : a.b * 256 / 2 ^ a.q % 2 ≡ 0 = ap₂ (λ (x y : ℕ). x / y % 2) (sym here) (sym (shifted a.q 18446744073709551616 (omega (arith, c.requires.1)) (omega arith))) ∙ c.if-base-step-eq0.true in
    omega (arith, here, (shifted a.q 18446744073709551616 (omega (arith, c.requires.1)) (omega arith)), far_fits a.b a.q (omega (arith, k8, c.if-q-k.false)) p.1 fits even)

pub returns-then-base-step-eq0 : goal.returns-then-base-step-eq0
returns-then-base-step-eq0 c =
    let a = c.args in
    let p = c.requires in
    let k8 : a.k ≡ 8 = p.2 c.if-q-k.false in
    let size : (1 * 2 ^ a.k % 18446744073709551616) ≡ 256 = (shifted a.k 18446744073709551616 (omega (arith, c.requires.0)) (omega arith)) ∙ ap (λ (x : ℕ). 2 ^ x) k8 in
    c.far.ensures ∙ far_is a.planes.now.zeros a.planes.now.ones a.q a.b (omega (arith, k8, c.if-q-k.false)) a.d _ _ (ap (λ (x : ℕ). a.b * x) size) (shifted a.q 18446744073709551616 (omega (arith, c.requires.1)) (omega arith)) c.if-base-step-eq0.true
    ∙ ap (λ (x : ℕ). marks a.d (λ i. turned_at a.planes.now.zeros a.planes.now.ones a.q (a.b * 2 ^ x + i)) (2 ^ x)) (sym k8)

pub returns : goal.returns
returns c =
    let a = c.args in
    let p = c.requires in
    let k8 : a.k ≡ 8 = p.2 c.if-q-k.false in
    let size : (1 * 2 ^ a.k % 18446744073709551616) ≡ 256 = (shifted a.k 18446744073709551616 (omega (arith, c.requires.0)) (omega arith)) ∙ ap (λ (x : ℕ). 2 ^ x) k8 in
    far_none a.planes.now.zeros a.planes.now.ones a.q a.b (omega (arith, k8, c.if-q-k.false)) a.d _ _ (ap (λ (x : ℕ). a.b * x) size) (shifted a.q 18446744073709551616 (omega (arith, c.requires.1)) (omega arith)) c.if-base-step-eq0.false
    ∙ ap (λ (x : ℕ). marks a.d (λ i. turned_at a.planes.now.zeros a.planes.now.ones a.q (a.b * 2 ^ x + i)) (2 ^ x)) (sym k8)
