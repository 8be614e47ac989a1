-- `reduction::cover::join` meets its contract.
-- Assumes nothing.
use mathlib.Core.Path.{refl, ap}
use Prim.Native.Nat.{ℕ}
use mathlib.Core.List.{List}
use lib.ListN.{set}
use Rattle.reduction.specs.RunningKeys.{gone, joining, kept_keys}
use Rattle.reduction.proofs.cover.KeySteps.{same_growth}
use Rattle.reduction.proofs.cover.join.Goals as goal

pub returns : goal.returns
unfolding joining kept_keys
returns c =
    let a = c.args in
    same_growth (ap (λ (l : List ℕ). set l a.u gone) c.keep.ensures) refl refl
