-- `bank::latching::word_kept` meets its contract.
-- Assumes nothing.
use mathlib.Core.Path.{sym, ◌∙◌}
use native.Mathlib.Omega.{arith}
use lib.Dec.{ltb}
use borrow.Author.Tests.{lt-ltb, le-ltb}
use Rattle.laws.proofs.Cases.{cond_yes, cond_no}
use Rattle.bank_spec.specs.Calls.{keeps}
use Rattle.bank.proofs.latching.word_kept.Goals as goal

pub returns-then-keeps : goal.returns-then-keeps
returns-then-keeps c =
    let a = c.args in
    sym (cond_yes (keeps a.blocks.bank.now a.number a.b) _ _ (sym c.keeps.ensures ∙ c.if-keeps.true))

pub returns-then-b-count : goal.returns-then-b-count
returns-then-b-count c =
    let a = c.args in
    sym
    (cond_no (keeps a.blocks.bank.now a.number a.b) _ _ (sym c.keeps.ensures ∙ c.if-keeps.false)
    ∙ cond_yes (ltb a.b a.blocks.bank.now.count) _ _ (lt-ltb a.b a.blocks.bank.now.count (omega (arith, c.count.ensures, c.if-b-count.true))))

pub returns : goal.returns
returns c =
    let a = c.args in
    sym
    (cond_no (keeps a.blocks.bank.now a.number a.b) _ _ (sym c.keeps.ensures ∙ c.if-keeps.false)
    ∙ cond_no (ltb a.b a.blocks.bank.now.count) _ _ (le-ltb a.b a.blocks.bank.now.count (omega (arith, c.count.ensures, c.if-b-count.false))))
