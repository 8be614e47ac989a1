-- `sheet::planes::number_words` meets its contract.
-- Assumes nothing.
use mathlib.Core.Path.{◌∙◌, ap, ◌≡◌}
use Prim.Native.Nat.{◌%◌, ℕ}
use native.Mathlib.Omega.{arith}
use Rattle.sheet.proofs.planes.PlaceBlocks.{numbers_start, numbers-next}
use Rattle.sheet.proofs.planes.number_words.Goals as goal

pub loop-k-init : goal.loop-k-init
loop-k-init c = numbers_start c.args.numbers.now c.args.inputs.now c.args.words.now 256

pub loop-k-preserved : goal.loop-k-preserved
loop-k-preserved c =
    let l = c.loop-k in
    let a = c.args in c.move_bit.ensures
    ∙ numbers-next a.numbers.now a.inputs.now a.words.now l.numbers 256 l.k _ l.invariant (ap (λ (x : ℕ). x % 16) c.from.ensures)

pub returns : goal.returns
returns c =
    let l = c.loop-k in
    let a = c.args in
    let e : l.k ≡ a.n = omega arith in
    rw e at l.invariant
