-- `reduction::cover::turns` meets its contract.
-- Assumes nothing.
use mathlib.Core.Path.{◌≡◌}
use Prim.Native.Nat.{◌-◌}
use Rattle.reduction.specs.RunningKeys.{turns}
use Rattle.reduction.proofs.cover.turns.Given as goal

abbrev pub invariant-loop-g : goal.invariant-loop-g
invariant-loop-g l =
    turns l.w l.link (l.w - l.g) l.g (record { keys = l.keys; owner = l.owner }) ≡ turns l.w l.link l.w 0 (record { keys = l.initial.keys; owner = l.initial.owner })
