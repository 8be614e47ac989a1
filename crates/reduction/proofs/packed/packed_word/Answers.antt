-- `reduction::packed::packed_word` meets its contract.
-- Assumes nothing.
use mathlib.Core.Path.{◌≡◌, refl, sym, ◌∙◌, ap, ap₂}
use Prim.Native.Nat.{ℕ, ◌+◌, ◌*◌, ◌^◌}
use native.Mathlib.Numerals.{add-one}
use lib.Bits.{bit_or}
use lib.Pow.{shl_exact}
use lib.ListN.{get_or}
use Rattle.laws.specs.Bits.{marks}
use Rattle.reduction.specs.Packed.{packed_word}
use native.Mathlib.Omega.{arith}
use Rattle.reduction.proofs.packed.packed_word.Goals as goal

pub loop-j-init : goal.loop-j-init
unfolding marks
loop-j-init c = refl

pub loop-j-preserved : goal.loop-j-preserved
unfolding marks
loop-j-preserved c =
    let l = c.loop-j in
    let a = c.args in
    let p = c.from in ap₂ bit_or l.invariant (shl_exact 8 (l.j * 8) 64 (omega (arith, p.ensures, c.fits-places (a.i * 8 + l.j))) (omega arith) ∙ ap (λ (x : ℕ). x * 2 ^ (l.j * 8)) p.ensures)
    ∙ ap (marks 0 (λ j. get_or a.places.now (a.i * 8 + j) 0 * 2 ^ (j * 8))) (sym (add-one l.j))

pub returns : goal.returns
unfolding packed_word
returns c =
    let l = c.loop-j in
    let e : l.j ≡ 8 = omega arith in
    rw e at l.invariant
