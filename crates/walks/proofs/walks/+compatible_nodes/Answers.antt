-- `walks::walks::compatible_nodes` meets its contract. The measure is the height.
-- Assumes nothing.
use mathlib.Core.Path.{◌∙◌, ap}
use mathlib.Core.Bool.{not}
use Rattle.reduction_spec.proofs.WalkSteps.{compatible_ended, compatible-both, compatible-low, compatible_fails, compatible-high, compatible_closed}
use Rattle.walks.proofs.walks.+compatible_nodes.Goals as goal

pub returns-then-h-eq0 : goal.returns-then-h-eq0
returns-then-h-eq0 t c =
    let a = c.args in
    c.is_open.ensures ∙ compatible_ended a.words.now a.h a.v a.u c.then-h-eq0.either

pub returns-then-not-high_open : goal.returns-then-not-high_open
returns-then-not-high_open t c =
    let a = c.args in
    ap not c.if-not-high_open.true ∙ compatible-low a.words.now a.h a.v a.u c.if-h-eq0.false c.if-v-lt2.false c.if-u-lt2.false
    c.low_of-low_v.result c.low_of-low_u.result
    c.high_of-high_v.result c.high_of-high_u.result c.low_of-low_v.ensures
    c.low_of-low_u.ensures c.high_of-high_v.ensures c.high_of-high_u.ensures
    c.is_open-low_open.result c.is_open-high_open.result c.is_open-low_open.ensures c.is_open-high_open.ensures
    c.compatible_nodes.result c.if-low_open.true c.compatible_nodes.ensures
    c.if-compatible_nodes.true c.if-not-high_open.true

pub returns-else-not-high_open : goal.returns-else-not-high_open
returns-else-not-high_open t c =
    let a = c.args in
    compatible-both a.words.now a.h a.v a.u c.if-h-eq0.false c.if-v-lt2.false c.if-u-lt2.false
    c.low_of-low_v.result c.low_of-low_u.result
    c.high_of-high_v.result c.high_of-high_u.result c.low_of-low_v.ensures
    c.low_of-low_u.ensures c.high_of-high_v.ensures c.high_of-high_u.ensures
    c.is_open-low_open.result c.is_open-high_open.result c.is_open-low_open.ensures c.is_open-high_open.ensures
    c.compatible_nodes.result c.compatible_nodes-else-not-high_open.result c.if-low_open.true
    c.compatible_nodes.ensures c.if-compatible_nodes.true c.if-not-high_open.false c.compatible_nodes-else-not-high_open.ensures

pub returns-else-compatible_nodes : goal.returns-else-compatible_nodes
returns-else-compatible_nodes t c =
    let a = c.args in
    c.if-compatible_nodes.false ∙ compatible_fails a.words.now a.h a.v a.u c.if-h-eq0.false c.if-v-lt2.false c.if-u-lt2.false
    c.low_of-low_v.result c.low_of-low_u.result
    c.high_of-high_v.result c.high_of-high_u.result c.low_of-low_v.ensures
    c.low_of-low_u.ensures c.high_of-high_v.ensures c.high_of-high_u.ensures
    c.is_open-low_open.result c.is_open-high_open.result c.is_open-low_open.ensures c.is_open-high_open.ensures
    c.compatible_nodes.result c.if-low_open.true c.compatible_nodes.ensures c.if-compatible_nodes.false

pub returns-then-high_open : goal.returns-then-high_open
returns-then-high_open t c =
    let a = c.args in
    compatible-high a.words.now a.h a.v a.u c.if-h-eq0.false c.if-v-lt2.false c.if-u-lt2.false
    c.low_of-low_v.result c.low_of-low_u.result
    c.high_of-high_v.result c.high_of-high_u.result c.low_of-low_v.ensures
    c.low_of-low_u.ensures c.high_of-high_v.ensures c.high_of-high_u.ensures
    c.is_open-low_open.result c.is_open-high_open.result c.is_open-low_open.ensures c.is_open-high_open.ensures
    c.compatible_nodes-then-high_open.result c.if-low_open.false c.if-high_open.true c.compatible_nodes-then-high_open.ensures

pub returns-else-high_open : goal.returns-else-high_open
returns-else-high_open t c =
    let a = c.args in
    c.if-high_open.false ∙ compatible_closed a.words.now a.h a.v a.u c.if-h-eq0.false c.if-v-lt2.false c.if-u-lt2.false
    c.low_of-low_v.result c.low_of-low_u.result
    c.high_of-high_v.result c.high_of-high_u.result c.low_of-low_v.ensures
    c.low_of-low_u.ensures c.high_of-high_v.ensures c.high_of-high_u.ensures
    c.is_open-low_open.result c.is_open-high_open.result c.is_open-low_open.ensures c.is_open-high_open.ensures
    c.if-low_open.false c.if-high_open.false
