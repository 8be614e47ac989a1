-- `words::hex_word` meets its contract.
-- Assumes nothing.
use mathlib.Core.Path.{◌∙◌}
use borrow.Author.Rules.{rules}
use Rattle.call_text.proofs.Scans.{number_sixteen, few_sixteen}
use Rattle.call_text.proofs.words.hex_word.Goals as goal

pub overflow_cast-result : goal.overflow_cast-result
overflow_cast-result c =
    let few = few_sixteen c.args.text.now _ c.in_ok-number_in.ensures in
    search rules

pub returns-in_err-number_in : goal.returns-in_err-number_in
returns-in_err-number_in c = c.from_residual.ensures ∙ c.in_err-number_in.ensures ∙ number_sixteen c.args.text.now

pub returns : goal.returns
returns c = c.in_ok-number_in.ensures ∙ number_sixteen c.args.text.now
