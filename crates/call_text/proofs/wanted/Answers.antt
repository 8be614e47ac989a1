-- `call_text::wanted` meets its contract.
-- Assumes nothing.
use mathlib.Core.Path.{◌∙◌, ap}
use Rattle.call_text.specs.Wanted.{wanted}
use Rattle.call_text.proofs.CallLaws.{rest_all}
use Rattle.call_text.proofs.UnreadLaws.{wanted-after}
use Rattle.call_text.proofs.wanted.Goals as goal

pub returns : goal.returns
returns c =
    let a = c.args in
    let found = c.line_place in
    wanted-after a.n a.text.now found.result _ found.ensures.0 (c.wanted_first.ensures ∙ ap wanted (rest_all found.result a.text.now))
