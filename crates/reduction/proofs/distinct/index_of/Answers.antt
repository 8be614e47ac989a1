-- `reduction::distinct::index_of` meets its contract.
-- Assumes nothing.
use mathlib.Core.Path.{sym, ◌∙◌}
use Rattle.reduction.proofs.distinct.ColumnHashes.{no_key}
use Rattle.reduction.proofs.distinct.index_of.Goals as goal

pub returns : goal.returns
returns c =
    let a = c.args in
    no_key a.planes.now.zero a.planes.now.one a.size a.keys.now a.kept.now a.q a.k a.count (sym c.any_key.ensures ∙ c.if-any_key.false)
