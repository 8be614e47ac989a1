-- `StepNumbers::from` gives the numbers of an answer.
-- Assumes nothing.
use mathlib.Core.Path.{sym, ap}
use Rattle.bank_spec.specs.declared.StepAnswer.{StepAnswer}
use Rattle.bank_spec.specs.Calls.{answer_of}
use Rattle.panel_calls.specs.StateBytes.{step_numbers}
use Rattle.panel_calls.proofs.StepNumbersFromStepAnswer.from.Goals as goal

pub returns-in-Went : goal.returns-in-Went
unfolding step_numbers answer_of
returns-in-Went c = sym (ap (λ (a : StepAnswer). step_numbers (answer_of a)) c.in-Went.is)

pub returns-in-Idle : goal.returns-in-Idle
unfolding step_numbers answer_of
returns-in-Idle c = sym (ap (λ (a : StepAnswer). step_numbers (answer_of a)) c.in-Idle.is)

pub returns-in-Refused : goal.returns-in-Refused
unfolding step_numbers answer_of
returns-in-Refused c = rw c.from.ensures (sym (ap (λ (a : StepAnswer). step_numbers (answer_of a)) c.in-Refused.is))
