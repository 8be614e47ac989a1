-- `cutting::cells::write_cell` meets its contract.
-- Assumes nothing.
use mathlib.Core.Path.{refl, sym, ◌∙◌, ap, ap₂}
use lib.ListN.{length, get_or}
use Rattle.cutting.specs.Levels.{no_level, rails_of, inputs_of}
use Rattle.cutting.proofs.levels.LevelLists.{rails-read, inputs-read}
use Prim.Native.Nat.{ℕ, ◌-◌}
use Rattle.stored_spec.specs.Cells.{usable_rows}
use Rattle.cutting.proofs.cells.RowsStored.{CellNumbers, columns_among, walked_small, walked_stored}
use native.Mathlib.Omega.{arith}
use Rattle.cutting.proofs.cells.write_cell.Goals as goal

-- the call's arguments are the cell's numbers
pub write_rows-requires : goal.write_rows-requires
write_rows-requires c =
    let a = c.args in
    let p = c.requires in
    let n : CellNumbers (length a.diagram.now.order.now) a.diagram.now.widths.now (rails_of a.levels.now) (inputs_of a.levels.now) a.top a.bottom
    a.top a.bottom c.first_node.result c.width_at.result c.first_node-2.result (get_or a.levels.now a.bottom no_level).rails c.saturating_sub.result
    c.rows-size.result = record {
      top_is = refl;
      bottom_is = refl;
      upper_is = c.first_node.ensures.0;
      width_is = c.width_at.ensures;
      lower_is = c.first_node-2.ensures.0;
      rails_is = sym (rails-read a.levels.now a.bottom);
      count_is = c.saturating_sub.ensures ∙ sym (ap₂ (λ (x y : ℕ). x - y) (inputs-read a.levels.now a.top) (inputs-read a.levels.now a.bottom));
      size_is = c.rows-size.ensures ∙ ap usable_rows c.cell_at.ensures;
    } in (
      omega (arith, n.rails_is, p.0.rails),
      omega (arith, n.count_is, p.0.inputs),
      omega (arith, n.upper_is, n.width_is, p.0.nodes),
      columns_among n a.diagram.now.words.now a.diagram.now.order.now p.0,
      omega (arith, n.size_is, p.1),
      walked_small n a.diagram.now.words.now a.diagram.now.order.now p.0,
    )

pub returns-clause-rows_after : goal.returns-clause-rows_after
returns-clause-rows_after c =
    let a = c.args in
    let n : CellNumbers (length a.diagram.now.order.now) a.diagram.now.widths.now (rails_of a.levels.now) (inputs_of a.levels.now) a.top a.bottom
    a.top a.bottom c.first_node.result c.width_at.result c.first_node-2.result (get_or a.levels.now a.bottom no_level).rails c.saturating_sub.result
    c.rows-size.result = record {
      top_is = refl;
      bottom_is = refl;
      upper_is = c.first_node.ensures.0;
      width_is = c.width_at.ensures;
      lower_is = c.first_node-2.ensures.0;
      rails_is = sym (rails-read a.levels.now a.bottom);
      count_is = c.saturating_sub.ensures ∙ sym (ap₂ (λ (x y : ℕ). x - y) (inputs-read a.levels.now a.top) (inputs-read a.levels.now a.bottom));
      size_is = c.rows-size.ensures ∙ ap usable_rows c.cell_at.ensures;
    } in
    c.write_rows.ensures ∙ walked_stored n a.diagram.now.words.now a.diagram.now.order.now a.at a.rows.now
