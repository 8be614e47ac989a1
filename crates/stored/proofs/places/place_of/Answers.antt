-- `place_of` finds where cell k lies, of records well formed or not.
-- Assumes nothing.
use mathlib.Core.Path.{sym, ◌∙◌}
use Rattle.stored_spec.specs.RowBytes.{two_bytes}
use Rattle.stored_spec.proofs.StoredParts.{records_have}
use Rattle.stored.proofs.CellPlaces.{place_none}
use native.Mathlib.Omega.{arith}
use Rattle.stored.proofs.places.place_of.Goals as goal

pub find_place-requires : goal.find_place-requires
find_place-requires c =
    let h = records_have two_bytes c.args.records.now (sym c.records_formed.ensures ∙ c.if-records_formed.true) in
    (omega (arith, h.whole, h.few), h.cells)

pub returns-then-records_formed : goal.returns-then-records_formed
returns-then-records_formed c = c.find_place.ensures.0 (sym c.records_formed.ensures ∙ c.if-records_formed.true)

pub returns : goal.returns
returns c =
    let a = c.args in
    place_none a.records.now a.k (sym c.records_formed.ensures ∙ c.if-records_formed.false)
