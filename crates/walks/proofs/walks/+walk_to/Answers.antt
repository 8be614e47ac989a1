-- `walks::walks::walk_to` meets its contract. The measure is the height.
-- Assumes nothing.
use mathlib.Core.Path.{◌≡◌}
use mathlib.Core.Logic.{◌⊎◌, inl, inr}
use mathlib.Core.List.{List}
use Prim.Native.Nat.{ℕ, ◌<◌}
use Rattle.reduction_spec.specs.Walk.{walk}
use Rattle.reduction_spec.proofs.WalkSteps.{walk-bottom, walk-stop, walk-next}
use Rattle.walks.proofs.walks.+walk_to.Goals as goal

ended : (ws : List ℕ) (bits h v : ℕ) → (h ≡ 0) ⊎ ((h ≡ 0 → ⊥) × (v < 2)) → v ≡ walk ws bits h v
ended ws bits h v (inl e) = walk-bottom ws bits h v e
ended ws bits h v (inr e) = walk-stop ws bits h v e.1

pub returns-then-h-eq0 : goal.returns-then-h-eq0
returns-then-h-eq0 t c = let a = c.args in ended a.words.now a.bits a.h a.v c.then-h-eq0.either

pub returns : goal.returns
returns t c =
    let a = c.args in
    walk-next a.words.now a.bits a.h a.v c.child_of.result c.walk_to.result c.if-h-eq0.false c.if-v-lt2.false
    c.child_of.ensures c.walk_to.ensures
