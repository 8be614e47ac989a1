-- `sheet::lines::value_of` meets its contract.
-- Assumes nothing.
use mathlib.Core.Path.{◌≡◌, sym, ◌∙◌, ap}
use Prim.Native.Nat.{ℕ, ◌-◌, ◌*◌, ◌/◌, ◌%◌, ◌^◌}
use native.Mathlib.Nat.{zero-mul, one-mul}
use native.Mathlib.Omega.{arith}
use Rattle.laws.proofs.Cases.{by_less}
use Rattle.sheet.specs.Planes.{line_value}
use Rattle.sheet.proofs.lines.value_of.Goals as goal

pub returns-then-z-o-eq1 : goal.returns-then-z-o-eq1
unfolding line_value
returns-then-z-o-eq1 c =
    let a = c.args in
    let u = 2 - a.y / 2 ^ a.o % 2 in
    let e : a.z / 2 ^ a.o % 2 ≡ 1 = c.if-z-o-eq1.true in
    sym (ap (λ (b : ℕ). (1 - b) * u) e ∙ zero-mul u)

pub returns : goal.returns
unfolding line_value
returns c =
    let a = c.args in
    let u = 2 - a.y / 2 ^ a.o % 2 in
    let b = a.z / 2 ^ a.o % 2 in
    let e : a.z / 2 ^ a.o % 2 ≡ 0 = by_less b 1 (λ l. omega arith) (λ l. absurd (c.if-z-o-eq1.false (omega arith))) in
    sym (ap (λ (b : ℕ). (1 - b) * u) e ∙ one-mul u)
