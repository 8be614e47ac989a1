-- `words::byte_in` meets its contract.
-- Assumes nothing.
use Rattle.std.proofs.Common.{rules, tests}
use lib.Dec.{eqb}
use Rattle.std.proofs.lemmas.Iterator.{YieldsList-from_slice}
use Rattle.std.proofs.lemmas.Iterator.Search.{position_from_yields_List}
use Rattle.call_text.proofs.Scans.{placed_or}
use Rattle.call_text.proofs.words.byte_in.Goals as goal

pub returns : goal.returns
returns c =
    let a = c.args in
    let found = position_from_yields_List (λ y. eqb y a.x) _ _ c.position.result c.position.ensures.ran (YieldsList-from_slice a.text.now cc) (λ x b q k. search (rules, tests)) in
    placed_or (λ y. eqb y a.x) a.text.now _ _ found c.unwrap_or.ensures
