-- `reduction::cover::first_keys` meets its contract.
-- Assumes nothing.
use mathlib.Core.Path.{sym, ◌∙◌, ap}
use Prim.Native.Nat.{ℕ, ◌+◌, ◌*◌}
use Rattle.laws.proofs.Puts.{puts_none, puts-next}
use Rattle.reduction.specs.RunningKeys.{first_key}
use Rattle.reduction.proofs.cover.first_keys.Goals as goal

pub loop-c-init : goal.loop-c-init
loop-c-init c = sym (puts_none (first_key c.args.w c.args.link.now) c.args.keys.now)

pub loop-c-preserved : goal.loop-c-preserved
unfolding first_key
loop-c-preserved c =
    let l = c.loop-c in
    let a = c.args in
    let new = ap (λ (x : ℕ). x * 512 + l.c) (c.from.ensures ∙ c.degree.ensures.0) in
    puts-next (first_key a.w a.link.now) l.c a.keys.now l.keys _ l.invariant new
