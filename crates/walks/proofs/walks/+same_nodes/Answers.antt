-- `walks::walks::same_nodes` meets its contract. The measure is the height.
-- Assumes nothing.
use mathlib.Core.Path.{sym, ◌∙◌}
use borrow.Author.Tests.{ne_eqb}
use Rattle.reduction_spec.proofs.WalkSteps.{same_ended, same_equal, same_low, same-high}
use Rattle.walks.proofs.walks.+same_nodes.Goals as goal

pub returns-then-v-u : goal.returns-then-v-u
returns-then-v-u t c = let a = c.args in same_equal a.words.now a.h a.v a.u c.if-v-u.true

pub returns-then-h-eq0 : goal.returns-then-h-eq0
returns-then-h-eq0 t c =
    let a = c.args in
    sym (ne_eqb a.v a.u c.if-v-u.false) ∙ same_ended a.words.now a.h a.v a.u c.then-h-eq0.either

pub returns-then-same_nodes : goal.returns-then-same_nodes
returns-then-same_nodes t c =
    let a = c.args in
    same-high a.words.now a.h a.v a.u c.if-h-eq0.false c.if-v-lt2.false c.if-u-lt2.false
    c.low_of.result c.low_of-2.result c.high_of.result c.high_of-then-same_nodes.result
    c.same_nodes.result c.same_nodes-then-same_nodes.result c.low_of.ensures c.low_of-2.ensures
    c.same_nodes.ensures c.if-same_nodes.true c.high_of.ensures c.high_of-then-same_nodes.ensures
    c.same_nodes-then-same_nodes.ensures

pub returns-else-same_nodes : goal.returns-else-same_nodes
returns-else-same_nodes t c =
    let a = c.args in
    c.if-same_nodes.false ∙ same_low a.words.now a.h a.v a.u c.if-h-eq0.false c.if-v-lt2.false c.if-u-lt2.false
    c.low_of.result c.low_of-2.result c.same_nodes.result c.low_of.ensures
    c.low_of-2.ensures c.same_nodes.ensures c.if-same_nodes.false
