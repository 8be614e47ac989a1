-- `walks::walks::child_of` meets its contract.
-- Assumes nothing.
use mathlib.Core.Path.{sym, ◌∙◌}
use Rattle.laws.specs.Bits.{has}
use Rattle.laws.proofs.Cases.{cond_yes, cond_no}
use Rattle.reduction_spec.specs.Walk.{child}
use Rattle.walks.proofs.walks.child_of.Goals as goal

pub returns-then-bit_at : goal.returns-then-bit_at
unfolding child
returns-then-bit_at c =
    let a = c.args in
    c.high_of.ensures ∙ sym (cond_yes (has a.bits a.h) _ _ (sym c.bit_at.ensures ∙ c.if-bit_at.true))

pub returns : goal.returns
unfolding child
returns c =
    let a = c.args in
    c.low_of.ensures ∙ sym (cond_no (has a.bits a.h) _ _ (sym c.bit_at.ensures ∙ c.if-bit_at.false))
