-- `call_text::lines::all_word_bytes` meets its contract.
-- Assumes nothing.
use mathlib.Core.Path.{refl, ◌∙◌}
use Rattle.call_text.specs.Lines.{is_word_byte}
use Rattle.std.proofs.Common.{rules, tests}
use Rattle.std.proofs.lemmas.Iterator.{YieldsList-from_range}
use Rattle.std.proofs.lemmas.Iterator.Search.{all_from_yields_List}
use Rattle.call_text.proofs.Scans.{all_ranged}
use Rattle.call_text.proofs.lines.all_word_bytes.Goals as goal

pub returns : goal.returns
returns c =
    all_from_yields_List (is_word_byte c.args.rest.now) _ _ c.all.result c.all.ensures.ran (YieldsList-from_range 0 16 16 refl refl) (λ x b q k. search (rules, tests))
    ∙ all_ranged (is_word_byte c.args.rest.now) 0 16
