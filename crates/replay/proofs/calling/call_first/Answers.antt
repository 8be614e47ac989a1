-- `replay::calling::call_first` meets its contract.
-- Assumes nothing.
use mathlib.Core.Path.{sym, ◌∙◌, ap}
use native.Mathlib.Omega.{arith}
use Rattle.bank_spec.specs.State.{state_of}
use Rattle.bank_spec.specs.Calls.{latch}
use Rattle.replay.proofs.OneCall.{same_answer, made-first, older_there, older_first, admission_there, admitted-first, latched-first, stepped_first}
use Rattle.replay.proofs.calling.call_first.Goals as goal

pub returns-in-0 : goal.returns-in-0
returns-in-0 c =
    let a = c.args in
    same_answer _ _ _ c.from.ensures
    ∙ made-first a.bank.now a.scan.now a.rows.now a.list.now (sym c.byte_at.ensures.0 ∙ c.in-0.is) c.pair_at.ensures.0 (c.make_bank.ensures a.rows.now)

pub admit_coded-requires : goal.admit_coded-requires
admit_coded-requires c = (omega arith, older_there c.args.list.now c.requires (sym c.byte_at.ensures.0 ∙ c.in-1.is))

pub returns-in-1 : goal.returns-in-1
returns-in-1 c =
    let a = c.args in
    same_answer _ _ _ c.from-in-1.ensures
    ∙ older_first a.bank.now a.scan.now a.rows.now a.list.now (sym c.byte_at.ensures.0 ∙ c.in-1.is) c.admit_coded.ensures

pub returns-in-2 : goal.returns-in-2
returns-in-2 c =
    let a = c.args in
    same_answer _ _ _ c.from-in-2.ensures
    ∙ latched-first a.bank.now a.scan.now a.rows.now a.list.now (sym c.byte_at.ensures.0 ∙ c.in-2.is)
    (c.latch_lent.ensures a.rows.now ∙ ap (latch (state_of a.bank.now a.scan.now a.rows.now)) c.words_in.ensures)

pub admit_coded-requires-in-4 : goal.admit_coded-requires-in-4
admit_coded-requires-in-4 c = (omega arith, admission_there c.args.list.now c.requires (sym c.byte_at.ensures.0 ∙ c.in-4.is))

pub returns-in-4 : goal.returns-in-4
returns-in-4 c =
    let a = c.args in
    same_answer _ _ _ c.from-in-4.ensures
    ∙ admitted-first a.bank.now a.scan.now a.rows.now a.list.now (sym c.byte_at.ensures.0 ∙ c.in-4.is)
    c.byte_at-period.ensures.0 c.byte_at-phase.ensures.0 c.admit_coded-in-4.ensures

pub returns-in_default : goal.returns-in_default
returns-in_default c =
    let h = c.in_default in
    let a = c.args in
    same_answer _ _ _ (sym c.from-in_default.ensures)
    ∙ stepped_first a.bank.now a.scan.now a.rows.now a.list.now
    (λ p. absurd (omega arith))
    (λ p. absurd (omega arith))
    (λ p. absurd (omega arith))
    (λ p. absurd (omega arith))
    c.step_lent.ensures
