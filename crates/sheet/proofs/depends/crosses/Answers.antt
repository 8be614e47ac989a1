-- `sheet::depends::crosses` meets its contract.
-- Assumes nothing.
use mathlib.Core.Path.{sym, ◌∙◌, ap}
use mathlib.Core.Bool.{not}
use Prim.Native.Nat.{ℕ}
use lib.Bits.{bit_and, and_zero_r}
use lib.Dec.{eqb}
use Rattle.sheet.specs.Depends.{apart_across}
use Rattle.sheet.proofs.depends.crosses.Goals as goal

pub returns-then-above-eq0 : goal.returns-then-above-eq0
returns-then-above-eq0 c =
    let a = c.args in
    let d = apart_across a.planes.now.zeros a.planes.now.ones a.n a.q in
    sym (ap (λ (x : ℕ). not (eqb (bit_and d x) 0)) c.if-above-eq0.true ∙ ap (λ (x : ℕ). not (eqb x 0)) (and_zero_r d))

pub returns : goal.returns
returns c =
    let a = c.args in
    ap (λ (x : ℕ). not (eqb (bit_and x a.above) 0)) (c.from.ensures ∙ c.across.ensures)
