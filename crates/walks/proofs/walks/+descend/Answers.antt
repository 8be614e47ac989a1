-- `walks::walks::descend` meets its contract. The measure is the number of heights left.
-- Assumes nothing.
use Prim.Native.Nat.{◌+◌, ◌-◌}
use native.Mathlib.Omega.{arith}
use Rattle.reduction_spec.proofs.DescentSteps.{met_still, met_twice, met_more, descend-ended, descend_input, descend_forced, descend-other}
use borrow.Author.Rules.{rules}
use Rattle.walks.proofs.walks.+descend.Goals as goal

pub returns-then-k-eq0 : goal.returns-then-k-eq0
returns-then-k-eq0 t c =
    let a = c.args in
    descend-ended a.words.now a.order.now a.bottom a.k a.v a.x a.count a.o c.then-k-eq0.either

pub descend-requires : goal.descend-requires
descend-requires t c =
    let a = c.args in
    let p = c.requires in
    (search rules, (search rules, met_still a.k a.o c.if-k-eq0.false p.0 p.1))

pub returns-then-is_input_at : goal.returns-then-is_input_at
returns-then-is_input_at t c =
    let a = c.args in
    descend_input a.words.now a.order.now a.bottom a.k a.v a.x a.count a.o c.if-k-eq0.false c.if-v-lt2.false
    (c.from.result + c.from-2.result - 1) c.is_input_at.result
    (omega (arith, c.from.ensures, c.from-2.ensures, c.if-k-eq0.false)) c.is_input_at.ensures
    c.from-then-is_input_at.result c.child_of-next.result c.saturating_sub-left.result c.descend.result
    c.if-is_input_at.true c.from-then-is_input_at.ensures c.saturating_sub-left.ensures
    c.child_of-next.ensures c.descend.ensures

pub descend-requires-then-low-eq0 : goal.descend-requires-then-low-eq0
descend-requires-then-low-eq0 t c =
    let a = c.args in
    let p = c.requires in
    (search rules, (search rules, met_more a.k a.o c.if-k-eq0.false p.0 p.1))

pub returns-then-low-eq0 : goal.returns-then-low-eq0
returns-then-low-eq0 t c =
    let a = c.args in
    descend_forced a.words.now a.order.now a.bottom a.k a.v a.x a.count a.o c.if-k-eq0.false c.if-v-lt2.false
    (c.from.result + c.from-2.result - 1) c.is_input_at.result
    (omega (arith, c.from.ensures, c.from-2.ensures, c.if-k-eq0.false)) c.is_input_at.ensures
    c.low_of-low.result c.high_of-high.result c.descend-then-low-eq0.result
    c.if-is_input_at.false c.low_of-low.ensures c.if-low-eq0.true
    c.high_of-high.ensures c.descend-then-low-eq0.ensures

pub descend-requires-2 : goal.descend-requires-2
descend-requires-2 t c =
    let a = c.args in
    let p = c.requires in
    (search rules, (search rules, met_twice a.k a.o c.if-k-eq0.false p.0 p.1))

pub returns : goal.returns
returns t c =
    let a = c.args in
    descend-other a.words.now a.order.now a.bottom a.k a.v a.x a.count a.o c.if-k-eq0.false c.if-v-lt2.false
    (c.from.result + c.from-2.result - 1) c.is_input_at.result
    (omega (arith, c.from.ensures, c.from-2.ensures, c.if-k-eq0.false)) c.is_input_at.ensures
    c.low_of-low.result c.descend-2.result c.if-is_input_at.false c.low_of-low.ensures
    c.if-low-eq0.false c.descend-2.ensures
