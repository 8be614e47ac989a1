-- `cutting::cell_rows::write_rows` meets its contract.
-- Assumes nothing.
use mathlib.Core.Path.{refl}
use Prim.Native.Nat.{◌≤◌, ◌*◌, ◌-◌}
use Rattle.cutting.proofs.cell_rows.RowSteps.{rows_all}
use native.Mathlib.Omega.{arith}
use Rattle.cutting.proofs.cell_rows.write_rows.Goals as goal

pub write_columns-requires : goal.write_columns-requires
write_columns-requires c =
    let w = c.power-block in
    let a = c.args in
    let p = c.requires in
    let used : a.span.now.width * w.result ≤ a.size = rw w.ensures.0 p.3 in
    (p.0, w.ensures.0, w.ensures.1, p.2, omega (arith, used, p.4), λ i h. p.5 i (omega (arith, used, h)))

pub returns : goal.returns
returns c =
    let w = c.power-block in
    let a = c.args in
    let p = c.requires in
    let used : a.span.now.width * w.result ≤ a.size = rw w.ensures.0 p.3 in
    let u = a.span.now.width * w.result in
    rows_all a.span.now.diagram.words.now a.span.now.diagram.order.now a.span.now.top a.span.now.bottom a.span.now.upper a.span.now.width a.span.now.lower a.span.now.rails a.span.now.count w.result w.ensures.0 a.at u
    (a.size - u) a.size a.rows.now _ _ refl (omega (arith, used))
    c.write_columns.ensures c.write_same.ensures
