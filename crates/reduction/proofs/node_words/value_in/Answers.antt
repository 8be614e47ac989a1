-- `reduction::node_words::value_in` meets its contract.
-- Assumes nothing.
use mathlib.Core.Path.{sym, ◌∙◌}
use mathlib.Core.Bool.{cond}
use borrow.Author.Tests.{eq-eqb, ne_eqb}
use Rattle.laws.specs.Bits.{bit, has}
use Rattle.laws.proofs.Cases.{cond_yes, cond_no}
use Rattle.sheet_spec.specs.Values.{free}
use Rattle.reduction.specs.Packed.{value_in}
use Rattle.reduction.proofs.node_words.value_in.Goals as goal

pub returns-then-z-b-eq1 : goal.returns-then-z-b-eq1
unfolding value_in
returns-then-z-b-eq1 c =
    let a = c.args in
    let other = cond (has a.o a.b) 1 free in
    sym (cond_yes (has a.z a.b) 0 other (eq-eqb (bit a.z a.b) 1 c.if-z-b-eq1.true))

pub returns-then-o-b-eq1 : goal.returns-then-o-b-eq1
unfolding value_in
returns-then-o-b-eq1 c =
    let a = c.args in
    let other = cond (has a.o a.b) 1 free in
    sym (cond_no (has a.z a.b) 0 other (ne_eqb (bit a.z a.b) 1 c.if-z-b-eq1.false)
    ∙ cond_yes (has a.o a.b) 1 free (eq-eqb (bit a.o a.b) 1 c.if-o-b-eq1.true))

pub returns : goal.returns
unfolding value_in
returns c =
    let a = c.args in
    let other = cond (has a.o a.b) 1 free in
    sym (cond_no (has a.z a.b) 0 other (ne_eqb (bit a.z a.b) 1 c.if-z-b-eq1.false)
    ∙ cond_no (has a.o a.b) 1 free (ne_eqb (bit a.o a.b) 1 c.if-o-b-eq1.false))
