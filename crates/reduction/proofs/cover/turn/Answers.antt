-- `reduction::cover::turn` meets its contract.
-- Assumes nothing.
use mathlib.Core.Path.{sym, ◌∙◌, ap}
use mathlib.Core.List.{List}
use Prim.Native.Nat.{ℕ}
use native.Mathlib.Omega.{arith}
use lib.ListN.{get_or, replicate, length-replicate}
use Rattle.laws.proofs.Puts.{stored}
use Rattle.reduction.specs.RunningKeys.{Stand, lowered_keys}
use Rattle.reduction.proofs.cover.CliqueLeaves.{grown-few}
use Rattle.reduction.proofs.cover.KeySteps.{least_ext, same_stand, turn_alone, turn-opened}
use Rattle.reduction.proofs.StdSteps.{copied_front}
use Rattle.reduction.proofs.cover.turn.Goals as goal

pub returns-then-k-lt512 : goal.returns-then-k-lt512
returns-then-k-lt512 c =
    let a = c.args in
    let s : Stand = record { keys = a.keys.now; owner = a.owner.now } in
    turn_alone a.w a.link.now a.g a.k c.column-u.result s (omega arith) c.column-u.ensures.0

pub grow-count-requires : goal.grow-count-requires
grow-count-requires c =
    let a = c.args in
    let pre = c.requires in
    let cand = copied_front a.w a.keys.now (replicate 512 0) _ c.copy_from_slice.ensures.after (omega (arith, c.told-keys)) (omega (arith, length-replicate {A = ℕ} 512 0)) in
    let f : ℕ → ℕ = λ i. get_or a.keys.now i 0 in (
      omega arith,
      pre.1 ∙ least_ext a.keys.now _ a.w (λ i h. sym (ap (λ (l : List ℕ). get_or l i 0) cand ∙ stored 512 a.w f i (omega arith) h)),
    )

pub mark-requires : goal.mark-requires
mark-requires c =
    let a = c.args in
    let f = grown-few a.w a.link.now _ _ (omega arith) c.grow-count.ensures in
    (f.count-few, f.low)

pub lower_by_clique-requires : goal.lower_by_clique-requires
lower_by_clique-requires c =
    let a = c.args in
    let f = grown-few a.w a.link.now _ _ (omega arith) c.grow-count.ensures in
    (omega arith, f.count-few, f.low)

pub returns : goal.returns
returns c =
    let a = c.args in
    let m = c.mark in
    same_stand (c.lower_by_clique.ensures ∙ ap (lowered_keys a.w a.link.now _ _) m.ensures.keys_after) m.ensures.owner_after
    ∙ turn-opened a.w a.link.now a.g a.k (record { keys = a.keys.now; owner = a.owner.now }) _ _ (omega arith) (copied_front a.w a.keys.now (replicate 512 0) _ c.copy_from_slice.ensures.after (omega (arith, c.told-keys)) (omega (arith, length-replicate {A = ℕ} 512 0))) c.grow-count.ensures
