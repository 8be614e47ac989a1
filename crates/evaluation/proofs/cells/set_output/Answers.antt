-- `evaluation::cells::set_output` meets its contract.
-- Assumes nothing.
use mathlib.Core.Path.{sym, ◌∙◌, ap}
use Prim.Native.Nat.{ℕ, ◌-◌}
use lib.ListN.{set}
use borrow.Author.Tests.{lt-ltb, le-ltb}
use Rattle.laws.proofs.Cases.{cond_yes, cond_no}
use Rattle.evaluation.proofs.cells.set_output.Goals as goal

pub returns-then-v-lt128 : goal.returns-then-v-lt128
returns-then-v-lt128 c = let t = lt-ltb c.args.v 128 c.if-v-lt128.true in (sym (cond_yes _ _ _ t), sym (cond_yes _ _ _ t))

pub returns : goal.returns
returns c =
    let a = c.args in
    let t = le-ltb a.v 128 c.if-v-lt128.false in
    (sym (cond_no _ _ _ t), ap (λ (n : ℕ). set a.outputs.now (a.v - 128) n) c.told_of.ensures ∙ sym (cond_no _ _ _ t))
