-- `reduction::cover::cover` meets its contract.
-- Assumes nothing.
use mathlib.Core.Path.{◌∙◌, ap}
use mathlib.Core.List.{List}
use Prim.Native.Nat.{ℕ}
use native.Mathlib.Omega.{arith}
use lib.ListN.{get_or, replicate}
use Rattle.laws.proofs.Puts.{puts_ext}
use Rattle.reduction_spec.specs.Cover.{cover}
use Rattle.reduction.specs.RunningKeys.{Stand, turns}
use Rattle.reduction.proofs.cover.KeysGiveCover.{turns-cover}
use Rattle.reduction.proofs.StdSteps.{copied_front}
use Rattle.reduction.proofs.cover.cover.Goals as goal

pub returns : goal.returns
returns c =
    let a = c.args in
    let w = a.w in
    let link = a.link.now in
    let keys = c.first_keys.ensures in
    let all = c.turns.ensures in
    copied_front w _ a.owner.now _ c.copy_from_slice.ensures.after (omega (arith, c.turns.array_long2)) (omega (arith, c.told-owner))
    ∙ puts_ext _ (λ i. get_or (cover w link) i 0) w a.owner.now
    (λ i h.
    ap (λ (s : Stand). get_or s.owner i 0) (all ∙ ap (λ (l : List ℕ). turns w link w 0 (record { keys = l; owner = replicate 512 0 })) keys)
    ∙ turns-cover w link c.requires.1 (omega arith) i h)
