-- `call_text::lines::all_spaces` meets its contract.
-- Assumes nothing.
use mathlib.Core.Path.{refl, ◌∙◌}
use Prim.Native.Nat.{◌*◌}
use lib.Dec.{eqb}
use lib.ListN.{get_or}
use Rattle.std.proofs.Common.{rules, tests}
use Rattle.std.proofs.lemmas.Iterator.{YieldsList-from_range}
use Rattle.std.proofs.lemmas.Iterator.Search.{all_from_yields_List}
use Rattle.call_text.proofs.Scans.{all_ranged}
use Rattle.call_text.proofs.lines.all_spaces.Goals as goal

pub returns : goal.returns
returns c =
    all_from_yields_List (λ b. eqb (get_or c.args.rest.now (5 * b) 0) 32) _ _ c.all.result c.all.ensures.ran (YieldsList-from_range 0 8 8 refl refl) (λ x b q k. search (rules, tests))
    ∙ all_ranged (λ b. eqb (get_or c.args.rest.now (5 * b) 0) 32) 0 8
