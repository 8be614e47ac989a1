-- `reduction::cover::turns` meets its contract.
-- Assumes nothing.
use mathlib.Core.Path.{◌≡◌, sym, ◌∙◌, ap}
use Prim.Native.Nat.{◌-◌, ◌+◌}
use native.Mathlib.Nat.{sub-zero}
use native.Mathlib.Omega.{arith}
use Rattle.reduction.specs.RunningKeys.{Stand, turns}
use Rattle.reduction.proofs.cover.KeySteps.{turns-stop, turns_more}
use Rattle.reduction.proofs.cover.turns.Goals as goal

pub loop-g-init : goal.loop-g-init
loop-g-init c = rw sub-zero

pub returns-then-k : goal.returns-then-k
returns-then-k c =
    let l = c.loop-g in
    let a = c.args in
    let k = c.least_key-k in
    let s : Stand = record { keys = l.keys; owner = l.owner } in
    sym (turns-stop a.w a.link.now a.w l.g k.result s (omega arith) k.ensures c.if-k.true) ∙ l.invariant

pub loop-g-preserved : goal.loop-g-preserved
loop-g-preserved c =
    let l = c.loop-g in
    let a = c.args in
    let k = c.least_key-k in
    let s : Stand = record { keys = l.keys; owner = l.owner } in ap (turns a.w a.link.now (a.w - (l.g + 1)) (l.g + 1)) c.turn.ensures
    ∙ sym (turns_more a.w a.link.now a.w l.g k.result s (omega arith) k.ensures c.if-k.false) ∙ l.invariant

pub returns : goal.returns
unfolding turns
returns c =
    let l = c.loop-g in
    let z : c.args.w - l.g ≡ 0 = omega arith in
    rw z at l.invariant
