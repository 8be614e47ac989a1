-- `cutting::cell_rows::fill_block` meets its contract. The measure is the number of heights left.
-- Assumes nothing.
use mathlib.Core.Path.{◌∙◌, ap}
use Prim.Native.Nat.{◌+◌, ◌-◌, ◌^◌}
use native.Mathlib.Omega.{arith}
use lib.ListN.{length}
use lib.Pow.{pow_pos}
use Rattle.laws.proofs.Puts.{length-puts_at}
use Rattle.reduction_spec.proofs.Promises.{met_still, met_few}
use Rattle.cutting.proofs.cell_rows.BlockRows.{going_on, half_twice, whole-low, whole-high, met_next, rows_from, ended-row, ended-block, single_row, single_block, led_small, led_block, first_small, second-small, split-block}
use Rattle.cutting.proofs.cell_rows.+fill_block.Goals as goal

pub last_row-requires : goal.last_row-requires
last_row-requires t c =
    let a = c.args in
    let p = c.requires in
    (p.0, p.1, p.2, omega (arith, single_row a.span.now.diagram.words.now a.span.now.diagram.order.now a.span.now.bottom a.span.now.lower a.span.now.rails a.k a.node a.o a.count a.x c.if-count-eq0.true, p.6 0 (pow_pos a.count)))

pub returns-then-count-eq0 : goal.returns-then-count-eq0
returns-then-count-eq0 t c =
    let a = c.args in
    let p = c.requires in
    single_block a.span.now.diagram.words.now a.span.now.diagram.order.now a.span.now.bottom a.span.now.lower a.span.now.rails a.k a.node a.o a.count a.x c.last_row.result a.rows.now c.if-count-eq0.true c.last_row.ensures

pub row_from-requires : goal.row_from-requires
row_from-requires t c =
    let a = c.args in
    let p = c.requires in
    (p.2, omega (arith, ended-row a.span.now.diagram.words.now a.span.now.diagram.order.now a.span.now.bottom a.span.now.lower a.span.now.rails a.k a.node a.o a.count (a.x + 0) c.if-k-node.true, p.6 0 (pow_pos a.count)))

pub returns-then-k-node : goal.returns-then-k-node
returns-then-k-node t c =
    let a = c.args in
    let p = c.requires in
    ended-block a.span.now.diagram.words.now a.span.now.diagram.order.now a.span.now.bottom a.span.now.lower a.span.now.rails a.k a.node a.o a.count a.x c.row_from.result c.power.result a.rows.now _ c.if-k-node.true
    c.row_from.ensures c.power.ensures.0 c.write_same.ensures

pub power-half-requires : goal.power-half-requires
power-half-requires t c = omega (arith, c.requires.3)

pub fill_block-requires : goal.fill_block-requires
fill_block-requires t c =
    let a = c.args in
    let p = c.requires in
    let g = going_on a.k a.node c.if-k-node.false in
    let some = c.if-count-eq0.false in (
      omega (arith, g.0),
      (
        omega (arith, p.0),
        met_still a.k a.o g.0 p.0 p.1,
        p.2,
        omega (arith, p.3),
        whole-low a.x a.count some p.4,
        omega (arith, p.5, half_twice a.x a.count some),
        first_small a.span.now.diagram.words.now a.span.now.diagram.order.now a.span.now.bottom a.span.now.lower a.span.now.rails a.k a.node a.o a.count g.0 g.1
            c.is_input_at.result c.is_input_at.ensures c.low_of-low.result c.high_of-high.result
            c.low_of-low.ensures c.high_of-high.ensures a.x p.6 c.power-half.result c.if-is_input_at.true some p.4 c.power-half.ensures.0,
      ),
    )

pub fill_block-requires-then-is_input_at : goal.fill_block-requires-then-is_input_at
fill_block-requires-then-is_input_at t c =
    let a = c.args in
    let p = c.requires in
    let g = going_on a.k a.node c.if-k-node.false in
    let some = c.if-count-eq0.false in
    let h = c.power-half in (
      omega (arith, g.0),
      (
        omega (arith, p.0),
        met_still a.k a.o g.0 p.0 p.1,
        p.2,
        omega (arith, p.3),
        rw h.ensures.0 (whole-high a.x a.count some p.4),
        omega (
          arith,
          p.5,
          half_twice a.x a.count some,
          h.ensures.0,
          ap length c.fill_block.ensures
              ∙ length-puts_at (rows_from a.span.now.diagram.words.now a.span.now.diagram.order.now a.span.now.bottom a.span.now.lower a.span.now.rails (a.k - 1) c.low_of-low.result a.o (a.count - 1) a.x) a.x (2 ^ (a.count - 1)) a.rows.now,
        ),
        second-small a.span.now.diagram.words.now a.span.now.diagram.order.now a.span.now.bottom a.span.now.lower a.span.now.rails a.k a.node a.o a.count g.0 g.1
            c.is_input_at.result c.is_input_at.ensures c.low_of-low.result c.high_of-high.result
            c.low_of-low.ensures c.high_of-high.ensures a.x p.6 h.result c.if-is_input_at.true some p.4 h.ensures.0,
      ),
    )

pub returns-then-is_input_at : goal.returns-then-is_input_at
returns-then-is_input_at t c =
    let a = c.args in
    let p = c.requires in
    let g = going_on a.k a.node c.if-k-node.false in
    let some = c.if-count-eq0.false in
    let h = c.power-half in
    split-block a.span.now.diagram.words.now a.span.now.diagram.order.now a.span.now.bottom a.span.now.lower a.span.now.rails a.k a.node a.o a.count g.0 g.1
    c.is_input_at.result c.is_input_at.ensures c.low_of-low.result c.high_of-high.result
    c.low_of-low.ensures c.high_of-high.ensures a.x p.6 h.result c.if-is_input_at.true some p.4 h.ensures.0 a.rows.now _ _ c.fill_block.ensures
    c.fill_block-then-is_input_at.ensures

pub with_output-met-requires : goal.with_output-met-requires
with_output-met-requires t c =
    let a = c.args in
    let p = c.requires in
    let g = going_on a.k a.node c.if-k-node.false in
    met_few a.k a.o p.0 p.1

pub fill_block-requires-2 : goal.fill_block-requires-2
fill_block-requires-2 t c =
    let a = c.args in
    let p = c.requires in
    let g = going_on a.k a.node c.if-k-node.false in
    let m = met_next a.k a.o c.low_of-low.result g.0 p.0 p.1 in
    let w = c.with_output-met in
    let n = c.allowed-next in (
      omega (arith, g.0),
      (
        omega (arith, p.0),
        rw w.ensures m,
        p.2,
        p.3,
        p.4,
        p.5,
        led_small a.span.now.diagram.words.now a.span.now.diagram.order.now a.span.now.bottom a.span.now.lower a.span.now.rails a.k a.node a.o a.count g.0 g.1
            c.is_input_at.result c.is_input_at.ensures c.low_of-low.result c.high_of-high.result
            c.low_of-low.ensures c.high_of-high.ensures a.x p.6 n.result w.result c.if-is_input_at.false n.ensures w.ensures,
      ),
    )

pub returns : goal.returns
returns t c =
    let a = c.args in
    let p = c.requires in
    let g = going_on a.k a.node c.if-k-node.false in
    let w = c.with_output-met in
    let n = c.allowed-next in
    led_block a.span.now.diagram.words.now a.span.now.diagram.order.now a.span.now.bottom a.span.now.lower a.span.now.rails a.k a.node a.o a.count g.0 g.1
    c.is_input_at.result c.is_input_at.ensures c.low_of-low.result c.high_of-high.result
    c.low_of-low.ensures c.high_of-high.ensures a.x p.6 n.result w.result c.if-is_input_at.false n.ensures w.ensures a.rows.now _ c.fill_block-2.ensures
