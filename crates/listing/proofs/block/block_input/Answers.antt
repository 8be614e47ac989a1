-- `block::block_input` meets its contract.
-- Assumes nothing.
use Rattle.std.proofs.Common.{rules, ◌≡◌, ◌∙◌}
use Rattle.refusals.specs.Numbers.{number}
use Rattle.block_text.specs.Given.{line_given}
use Rattle.listing.proofs.InputCascade.{line_refused, line_accepted}
use Rattle.listing.proofs.block.block_input.Goals as goal

pub returns-in_err-cascade-clause-text_after : goal.returns-in_err-cascade-clause-text_after
returns-in_err-cascade-clause-text_after c =
    let r = c.in_err-cascade.field-0.0 in
    let is : line_given c.from_residual.result c.args.text.now ≡ record { refusal = number r; size = 0; text = c.args.text.now } = search rules in
    is ∙ line_refused c.args.input.now r c.in_err-cascade.ensures.refused c.args.text.now

pub returns-clause-text_after : goal.returns-clause-text_after
returns-clause-text_after c =
    let made = c.in_ok-cascade.ensures in
    line_accepted c.args.input.now made.refused _ _ made.written.0 made.written.1 c.args.text.now _ c.write_line.ensures.text_after
