-- `reduction::packed::pack` meets its contract.
-- Assumes nothing.
use mathlib.Core.Path.{◌∙◌, ap}
use mathlib.Core.Bool.{cond}
use mathlib.Core.List.{List}
use Prim.Native.Nat.{ℕ, ◌+◌, ◌*◌, ◌^◌, ◌≤◌}
use native.Mathlib.Omega.{arith}
use lib.Pow.{pow_mono}
use lib.Dec.{eqb}
use lib.ListN.{get_or, replicate, get_or-replicate}
use Rattle.laws.specs.Lists.{puts}
use Rattle.laws.proofs.Puts.{puts_ext}
use Rattle.laws.specs.Bits.{marks}
use Rattle.reduction.specs.Packed.{packed_word, places_with, lines_with}
use Rattle.reduction.proofs.packed.pack.Goals as goal

pub returns : goal.returns
unfolding places_with lines_with
returns c =
    let a = c.args in
    let small : 2 ^ a.n ≤ 4096 = pow_mono c.requires.0 in
    let h : ℕ → ℕ → ℕ = λ x k. cond (eqb (get_or a.table.now (k * 2 ^ a.n + x) 0) a.v) (2 ^ k) 0 in
    c.pack_words.ensures
    ∙ ap (λ (s : List ℕ). puts 512 (packed_word s) a.words.now)
    (c.pack_lines.ensures
    ∙ puts_ext (λ x. marks (get_or (replicate 4096 0) x 0) (h x) a.m) (λ x. marks 0 (h x) a.m) (2 ^ a.n) (replicate 4096 0)
    (λ i l. ap (λ (z : ℕ). marks z (h i) a.m) (get_or-replicate 4096 i 0 0 (omega (arith, l, small)))))
