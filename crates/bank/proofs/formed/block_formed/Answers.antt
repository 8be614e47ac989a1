-- `bank::formed::block_formed` meets its contract.
-- Assumes nothing.
use mathlib.Core.Path.{sym, ◌∙◌, ap}
use native.Mathlib.Omega.{arith}
use Rattle.stored_spec.specs.StoredForm.{records_formed}
use Rattle.bank.proofs.formed.HeldBlocks.{too_few, too_many_lem, not-timed, in_number}
use Rattle.bank.proofs.formed.block_formed.Goals as goal

pub returns-then-n-lt1 : goal.returns-then-n-lt1
returns-then-n-lt1 c = let a = c.args in too_few a.bank.now a.b c.from-n.ensures c.if-n-lt1.true

pub returns-then-n-gt-MOST_VARIABLES : goal.returns-then-n-gt-MOST_VARIABLES
returns-then-n-gt-MOST_VARIABLES c = let a = c.args in too_many_lem a.bank.now a.b c.from-n.ensures c.if-n-gt-MOST_VARIABLES.true

pub returns-then-not-timed : goal.returns-then-not-timed
returns-then-not-timed c =
    let a = c.args in
    not-timed a.bank.now a.b c.from.ensures c.from-2.ensures
    (sym c.timed.ensures ∙ c.if-not-timed.true)

pub records_at-requires : goal.records_at-requires
records_at-requires c = (c.requires, omega arith)

pub returns : goal.returns
returns c =
    let a = c.args in
    let e = c.from-n.ensures in
    c.records_formed.ensures ∙ ap records_formed c.records_at.ensures
    ∙ in_number a.bank.now a.b e (omega arith) (omega arith) c.from.ensures c.from-2.ensures
    (sym c.timed.ensures ∙ c.if-not-timed.false)
