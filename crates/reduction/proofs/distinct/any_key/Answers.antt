-- `reduction::distinct::any_key` meets its contract.
-- Assumes nothing.
use mathlib.Core.Path.{◌≡◌, ◌∙◌, ap}
use Prim.Native.Nat.{ℕ}
use mathlib.Core.Bool.{Bool}
use lib.Dec.{eqb}
use lib.ListN.{get_or}
use Rattle.laws.specs.Tests.{any}
use Rattle.laws.proofs.Bits.{flag_is}
use Rattle.laws.proofs.Bits.{any_flag}
use native.Mathlib.Omega.{arith}
use Rattle.reduction.proofs.distinct.any_key.Goals as goal

pub loop-c-preserved : goal.loop-c-preserved
loop-c-preserved c =
    let l = c.loop-c in
    let a = c.args in
    any_flag (λ i. eqb (get_or a.keys.now i 0) a.k) l.c l.found c.hit-found.result l.invariant c.hit-found.ensures

pub returns : goal.returns
returns c =
    let l = c.loop-c in
    let a = c.args in
    let f : ℕ → Bool = λ i. eqb (get_or a.keys.now i 0) a.k in
    let e : l.c ≡ a.count = omega arith in
    ap (λ (x : ℕ). eqb x 1) l.invariant ∙ flag_is (any l.c f) ∙ ap (λ (n : ℕ). any n f) e
