-- `sheet::planes::mark` meets its contract.
-- Assumes nothing.
use mathlib.Core.Path.{refl, ◌∙◌}
use Rattle.sheet.specs.Planes.{marked_plane}
use Rattle.sheet.proofs.planes.PlaceBlocks.{high_marked, low_marked}
use Rattle.sheet.proofs.planes.mark.Goals as goal

pub returns : goal.returns
unfolding marked_plane
returns c =
    let a = c.args in
    let ks = a.tests.now.masks in
    let vs = a.tests.now.values in
    let fs = a.forces.now in
    c.spread.ensures
    ∙ rw (c.mark_some.ensures ∙ high_marked ks vs fs a.count a.plane.now, c.mark_some-2.ensures ∙ low_marked ks vs fs a.count) refl
