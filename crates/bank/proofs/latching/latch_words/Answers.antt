-- `bank::latching::latch_words` meets its contract.
-- Assumes nothing.
use mathlib.Core.Path.{sym, ◌∙◌}
use borrow.Author.Rules.{rules}
use Rattle.bank.proofs.formed.HeldBlocks.{bank_there}
use Rattle.bank.proofs.latching.LatchCases.{state-number, latched_is, latch_accepts, latch_12}
use Rattle.bank.proofs.latching.latch_words.Goals as goal

pub returns-then-not-state_formed : goal.returns-then-not-state_formed
returns-then-not-state_formed c =
    let a = c.args in
    latch_12 a.bank.now a.scan.now a.words.now (sym c.state_formed.ensures ∙ c.if-not-state_formed.true)

pub invariant_of-blocks : goal.invariant_of-blocks
invariant_of-blocks c =
    let h = bank_there c.args.bank.now c.args.scan.now (sym c.state_formed.ensures ∙ c.if-not-state_formed.false) in
    record { few = h.few; formed = h.all }

pub overflow_add-number : goal.overflow_add-number
overflow_add-number c =
    let a = c.args in
    let small = state-number a.bank.now a.scan.now (sym c.state_formed.ensures ∙ c.if-not-state_formed.false) in
    search rules

pub returns : goal.returns
returns c =
    let a = c.args in
    latch_accepts a.bank.now a.scan.now a.words.now (sym c.state_formed.ensures ∙ c.if-not-state_formed.false)
    (latched_is a.bank.now a.scan.now _ c.words_kept.ensures c.outputs_kept.ensures c.scan_from.ensures)
