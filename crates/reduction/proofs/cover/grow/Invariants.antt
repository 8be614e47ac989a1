-- `reduction::cover::grow` meets its contract.
-- Assumes nothing.
use mathlib.Core.Path.{◌≡◌}
use Prim.Native.Nat.{◌-◌}
use Rattle.reduction.specs.RunningKeys.{growing, least_key}
use Rattle.reduction.proofs.cover.grow.Given as goal

abbrev pub invariant-loop-count : goal.invariant-loop-count
invariant-loop-count l =
    (l.k ≡ least_key l.cand l.w)
    × (growing l.w l.link (l.w - l.count) (record { cand = l.cand; members = l.members; count = l.count })
    ≡ growing l.w l.link l.w (record { cand = l.initial.cand; members = l.initial.members; count = 0 }))
