-- `reduction::packed::candidates` meets its contract.
-- Assumes nothing.
use mathlib.Core.Path.{◌≡◌, ◌∙◌, ap}
use Prim.Native.Nat.{ℕ, ◌*◌, ◌/◌, ◌%◌, ◌^◌, ◌<◌}
use borrow.Author.Tests.{lt-ltb, le-ltb}
use lib.Bits.{bit_and}
use lib.Pow.{pow-lt}
use lib.ListN.{get_or}
use Rattle.laws.specs.Lists.{puts}
use Rattle.reduction.specs.Packed.{half, candidates_of}
use native.Mathlib.Omega.{arith}
use Rattle.reduction.proofs.packed.candidates.Goals as goal

pub halves-requires : goal.halves-requires
halves-requires c =
    let a = c.args in
    let h : 2 ^ a.here.now.a < 8 = pow-lt c.if-here-lt3.true in
    (c.requires.1, omega arith)

pub returns-then-here-lt3 : goal.returns-then-here-lt3
unfolding candidates_of
returns-then-here-lt3 c =
    let a = c.args in
    let h : 2 ^ a.here.now.a < 8 = pow-lt c.if-here-lt3.true in
    let e : 8 * 2 ^ a.here.now.a % 2 ^ 64 ≡ 8 * 2 ^ a.here.now.a = omega arith in
    rw (c.if-here.true, lt-ltb a.here.now.a 3 c.if-here-lt3.true)
    (c.halves.ensures ∙ ap (λ (s : ℕ). puts (a.here.now.w * 2) (λ q. half s (get_or a.from.now (q / 2) 0) (q % 2)) a.to.now) e)

pub returns-then-here : goal.returns-then-here
unfolding candidates_of
returns-then-here c =
    let a = c.args in
    rw (c.if-here.true, le-ltb a.here.now.a 3 (omega (arith, c.if-here-lt3.false)))
    (c.keep_bits.ensures ∙ ap (λ (s : ℕ). puts (a.here.now.w * 2 * a.here.now.size) (λ i. bit_and (get_or a.from.now i 0) s) a.to.now) c.lines_mask.ensures)

pub returns : goal.returns
unfolding candidates_of
returns c =
    let a = c.args in
    rw c.if-here.false
    (c.keep_bits-2.ensures ∙ ap (λ (s : ℕ). puts (a.here.now.w * a.here.now.size) (λ i. bit_and (get_or a.from.now i 0) s) a.to.now) c.lines_mask-2.ensures)
