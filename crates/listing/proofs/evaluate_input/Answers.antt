-- `evaluate_input` meets its contract.
-- Assumes nothing.
use Rattle.std.proofs.Common.{rules, ◌≡◌, ◌∙◌, replicate}
use Rattle.refusals.specs.Numbers.{number}
use Rattle.evaluation.specs.Answer.{evaluation_given}
use Rattle.listing.proofs.InputCascade.{evaluated_refused, evaluated_accepted}
use Rattle.listing.proofs.evaluate_input.Goals as goal

pub returns-in_err-cascade : goal.returns-in_err-cascade
returns-in_err-cascade c =
    let r = c.in_err-cascade.field-0.0 in
    let is : evaluation_given c.from_residual.result ≡ record { refusal = number r; outputs = replicate 8 2 } = search rules in
    is ∙ evaluated_refused c.args.input.now r c.in_err-cascade.ensures.refused c.args.known c.args.word

pub returns : goal.returns
returns c =
    let made = c.in_ok-cascade.ensures in
    evaluated_accepted c.args.input.now made.refused _ _ made.written.0 made.written.1 c.args.known c.args.word _ c.evaluate.ensures
