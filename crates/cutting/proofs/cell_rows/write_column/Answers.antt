-- `cutting::cell_rows::write_column` meets its contract.
-- Assumes nothing.
use Prim.Native.Nat.{◌-◌}
use native.Mathlib.Nat.{zero-mod}
use native.Mathlib.Omega.{arith}
use borrow.Rule.Slice.PartMut.{mid_len}
use lib.ListN.{length}
use lib.Pow.{pow_pos}
use Rattle.cutting.proofs.cell_rows.BlockRows.{node-small, node_block}
use Rattle.cutting.proofs.cell_rows.write_column.Goals as goal

pub fill_block-requires : goal.fill_block-requires
fill_block-requires c =
    let h = c.heights in
    let a = c.args in
    let p = c.requires in (
      h.ensures.1,
      pow_pos (20 - h.result),
      p.0,
      p.2,
      zero-mod _,
      omega (arith, p.1, p.3, mid_len a.at (length a.rows.now) a.rows.now (omega arith)),
      node-small a.span.now.diagram.words.now a.span.now.diagram.order.now a.span.now.top a.span.now.bottom a.span.now.lower a.span.now.rails a.span.now.count a.node h.result h.ensures.0
          a.size p.1 p.4,
    )

pub returns : goal.returns
returns c =
    let h = c.heights in
    let a = c.args in
    node_block a.span.now.diagram.words.now a.span.now.diagram.order.now a.span.now.top a.span.now.bottom a.span.now.lower a.span.now.rails a.span.now.count a.node h.result h.ensures.0
    a.size c.requires.1 a.at a.rows.now _ c.requires.3 c.fill_block.ensures
