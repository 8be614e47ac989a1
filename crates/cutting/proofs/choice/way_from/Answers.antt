-- `cutting::choice::way_from` meets its contract.
-- Assumes nothing.
use mathlib.Core.Path.{refl, ◌∙◌, ap}
use native.Mathlib.Omega.{arith}
use lib.ListN.{get_or}
use Rattle.std.specs.Prelude.{None}
use Rattle.cutting.specs.Levels.{rails_of, inputs_of}
use Rattle.cutting.specs.Ways.{Way, way_given}
use Rattle.cutting.proofs.choice.ChoiceSteps.{below_start, below_step, below_end, way_at_bottom, ways-small}
use Rattle.cutting.proofs.choice.way_from.Goals as goal

pub returns-then-h-eq0 : goal.returns-then-h-eq0
returns-then-h-eq0 c =
    let a = c.args in
    way_at_bottom a.k a.l (rails_of a.levels.now) (inputs_of a.levels.now) a.h c.if-h-eq0.true

pub loop-g-init : goal.loop-g-init
loop-g-init c =
    let a = c.args in
    below_start a.k a.l (rails_of a.levels.now) (inputs_of a.levels.now) a.h

pub with_cut-best-requires : goal.with_cut-best-requires
with_cut-best-requires c =
    let a = c.args in
    let p = c.requires in
    let g = c.loop-g.g in
    let s = ways-small a.k a.l (rails_of a.levels.now) (inputs_of a.levels.now) p.0 p.1 g (omega arith) in
    let way = p.3 g c.loop-g-test.true in
    (p.0, p.1, rw way s.0, rw way s.1)

pub loop-g-preserved : goal.loop-g-preserved
loop-g-preserved c =
    let a = c.args in
    let i = c.loop-g in
    let g = i.g in
    let way = c.requires.3 g c.loop-g-test.true in
    below_step a.k a.l (rails_of a.levels.now) (inputs_of a.levels.now) a.h g g c.cell_at.result
    (way_given (get_or a.ways.now g None)) (way_given i.best) (way_given c.with_cut-best.result) c.cell_at.ensures refl
    (ap (λ (w : Way). w.cuts) way) (ap (λ (w : Way). w.bits) way) i.invariant c.with_cut-best.ensures

pub returns : goal.returns
returns c =
    let a = c.args in
    let i = c.loop-g in
    i.invariant ∙ below_end a.k a.l (rails_of a.levels.now) (inputs_of a.levels.now) a.h i.g c.if-h-eq0.false (omega arith)
