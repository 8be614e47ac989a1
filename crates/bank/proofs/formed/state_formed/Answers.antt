-- `state_formed` tests a bank and a scan state.
-- Assumes nothing.
use mathlib.Core.Path.{sym, ◌∙◌}
use Rattle.bank_spec.specs.State.{formed}
use Rattle.bank.proofs.formed.HeldBlocks.{bank-has}
use Rattle.bank.proofs.formed.state_formed.Goals as goal

pub invariant_of-scan_formed : goal.invariant_of-scan_formed
invariant_of-scan_formed c =
    let h = bank-has c.args.bank.now (sym c.bank_formed.ensures ∙ c.if-bank_formed.true) in
    record { few = h.few; formed = h.all }

pub returns-then-bank_formed : goal.returns-then-bank_formed
unfolding formed
returns-then-bank_formed c = rw (sym c.bank_formed.ensures ∙ c.if-bank_formed.true) c.scan_formed.ensures

pub returns : goal.returns
unfolding formed
returns c = rw (sym c.bank_formed.ensures ∙ c.if-bank_formed.false)
