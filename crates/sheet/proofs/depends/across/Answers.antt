-- `sheet::depends::across` meets its contract.
-- Assumes nothing.
use mathlib.Core.Path.{◌≡◌, sym, ◌∙◌, ap}
use Prim.Native.Nat.{ℕ, ◌-◌, ◌*◌, ◌^◌}
use native.Mathlib.Nat.{zero-mul}
use native.Mathlib.Omega.{arith}
use lib.Pow.{pow_mono, pow-add}
use Rattle.laws.proofs.Lists.{row_end}
use Rattle.laws.specs.Bits.{marks}
use Rattle.sheet.proofs.Shifts.{shifted}
use Rattle.sheet.specs.Depends.{turned_at, apart_across}
use Rattle.sheet.proofs.depends.TurnedPlaces.{marks-first, blocks-next}
use Rattle.sheet.proofs.depends.across.Goals as goal

pub loop-b-init : goal.loop-b-init
loop-b-init c =
    let a = c.args in
    let g : ℕ → ℕ = turned_at a.planes.now.zeros a.planes.now.ones a.q in
    marks-first 0 g ∙ ap (marks 0 g) (sym (zero-mul (2 ^ c.min-k.result)))

pub block-d-requires : goal.block-d-requires
block-d-requires c =
    let l = c.loop-b in
    let a = c.args in
    let p = c.requires in
    let k = c.min-k in
    let whole : 2 ^ (a.n - k.result) * 2 ^ k.result ≡ 2 ^ a.n = sym (pow-add 2 (a.n - k.result) k.result) ∙ ap (λ (x : ℕ). 2 ^ x) (omega (arith, k.ensures)) in
    let top = pow_mono {i = a.n} {j = 12} p.0 in
    let under = row_end l.b (2 ^ (a.n - k.result)) (2 ^ k.result) (omega (arith, shifted (a.n - k.result) 18446744073709551616 (omega (arith, c.requires.0)) (omega arith))) in
    (omega (arith, k.ensures), omega (arith, p.0, p.1), (λ q. omega (arith, p.1, k.ensures)), omega arith)

pub loop-b-preserved : goal.loop-b-preserved
loop-b-preserved c =
    let l = c.loop-b in
    let a = c.args in
    blocks-next a.planes.now.zeros a.planes.now.ones a.q c.min-k.result l.b l.d _ l.invariant c.block-d.ensures

pub returns : goal.returns
unfolding apart_across
returns c =
    let l = c.loop-b in
    let a = c.args in
    let k = c.min-k in
    let e : l.b ≡ 2 ^ (a.n - k.result) = omega (arith, shifted (a.n - k.result) 18446744073709551616 (omega (arith, c.requires.0)) (omega arith)) in
    let whole : l.b * 2 ^ k.result ≡ 2 ^ a.n = ap (λ (x : ℕ). x * 2 ^ k.result) e ∙ sym (pow-add 2 (a.n - k.result) k.result) ∙ ap (λ (x : ℕ). 2 ^ x) (omega (arith, k.ensures)) in
    l.invariant ∙ ap (marks 0 (turned_at a.planes.now.zeros a.planes.now.ones a.q)) whole
