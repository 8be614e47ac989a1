-- `reduction::distinct::key` meets its contract.
-- Assumes nothing.
use mathlib.Core.Path.{◌≡◌, refl, ◌∙◌, ap}
use Prim.Native.Nat.{ℕ, ◌*◌, ◌+◌}
use lib.ListN.{get_or}
use Rattle.reduction.specs.ColumnHashes.{stirred, stirred_to, folded, key_of}
use Rattle.reduction.proofs.distinct.ColumnHashes.{stirred-next}
use native.Mathlib.Omega.{arith}
use Rattle.reduction.proofs.distinct.key.Goals as goal

pub loop-i-init : goal.loop-i-init
unfolding stirred_to
loop-i-init c = refl

pub loop-i-preserved : goal.loop-i-preserved
loop-i-preserved c =
    let l = c.loop-i in
    let a = c.args in
    let at : ℕ = a.q * a.size in c.stir-k.ensures ∙ ap (λ (x : ℕ). stirred x (get_or a.planes.now.zero (at + l.i) 0) (get_or a.planes.now.one (at + l.i) 0)) l.invariant
    ∙ stirred-next a.planes.now.zero a.planes.now.one at l.i

pub returns : goal.returns
unfolding key_of
returns c =
    let l = c.loop-i in
    let a = c.args in
    let e : l.i ≡ a.size = omega arith in
    c.fold.ensures ∙ ap folded (l.invariant ∙ ap (stirred_to a.planes.now.zero a.planes.now.one (a.q * a.size)) e)
