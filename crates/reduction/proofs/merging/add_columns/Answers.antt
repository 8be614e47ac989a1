-- `reduction::merging::add_columns` meets its contract.
-- Assumes nothing.
use mathlib.Core.Path.{◌≡◌, sym, ◌∙◌, ap}
use Rattle.reduction.specs.Packed.{added_columns}
use Rattle.reduction.proofs.merging.CliqueNumbers.{added_none, added_next}
use native.Mathlib.Omega.{arith}
use Rattle.reduction.proofs.merging.add_columns.Goals as goal

pub loop-c-init : goal.loop-c-init
loop-c-init c =
    let a = c.args in
    sym (added_none a.size a.firsts.now a.nums.now a.from.now c.clear.new.plane)

pub loop-c-preserved : goal.loop-c-preserved
loop-c-preserved c =
    let l = c.loop-c in
    let a = c.args in
    let h = c.from in
    let t = c.clear.new.plane in
    let g = c.from-in-loop-c in c.add_column.ensures
    ∙ added_next a.size a.firsts.now a.nums.now a.from.now t l.to l.c g.result h.result l.invariant
    g.ensures h.ensures

pub returns : goal.returns
returns c =
    let l = c.loop-c in
    let a = c.args in
    let e : l.c ≡ a.w = omega arith in
    let q : l.to ≡ added_columns a.size a.firsts.now a.nums.now a.from.now a.w c.clear.new.plane =
    rw e at l.invariant in
    q ∙ ap (added_columns a.size a.firsts.now a.nums.now a.from.now a.w) c.clear.ensures
