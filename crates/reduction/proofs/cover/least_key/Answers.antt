-- `reduction::cover::least_key` meets its contract.
-- Assumes nothing.
use mathlib.Core.Path.{refl, sym, ◌∙◌, ap}
use Prim.Native.Nat.{min}
use native.Mathlib.Numerals.{add-one}
use lib.ListN.{get_or}
use Rattle.reduction.specs.RunningKeys.{least_key}
use Rattle.reduction.proofs.cover.least_key.Goals as goal

pub loop-i-init : goal.loop-i-init
unfolding least_key
loop-i-init c = refl

pub loop-i-preserved : goal.loop-i-preserved
unfolding least_key
loop-i-preserved c =
    let l = c.loop-i in
    let keys = c.args.keys.now in
    c.min-k.ensures ∙ ap (min (get_or keys l.i 0)) l.invariant ∙ ap (least_key keys) (sym (add-one l.i))
