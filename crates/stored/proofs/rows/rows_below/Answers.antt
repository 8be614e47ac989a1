-- `rows_below` tests some rows by the bits that some of them has.
-- Assumes nothing.
use mathlib.Core.Path.{◌≡◌, ◌∙◌, ap, ap₂}
use Prim.Native.Nat.{ℕ, ◌+◌, ◌*◌, ◌%◌, ◌^◌, ◌≤◌}
use lib.Dec.{ltb}
use lib.ListN.{take, drop}
use lib.Pow.{pow_mono}
use native.Mathlib.Omega.{arith}
use Rattle.stored_spec.specs.RowBytes.{room}
use Rattle.stored.specs.Formed.{bits_of}
use Rattle.stored.proofs.CellSteps.{cell_power}
use Rattle.stored.proofs.rows.RowBytes.{bits_below, any_below, room_some, cut_out}
use Rattle.stored.proofs.rows.rows_below.Goals as goal

pub returns-then-cell : goal.returns-then-cell
returns-then-cell g c =
    let a = c.args in
    any_below g.row.SIZE a.rows.now a.at a.cell.outputs c.if-cell.true c.type_inv.rows (2 ^ a.cell.inputs)

pub overflow_add-end : goal.overflow_add-end
overflow_add-end g c =
    let a = c.args in
    omega (arith, (cell_power c.requires.2).0, c.requires.4, room_some g.row.SIZE (a.at + 2 ^ a.cell.inputs) c.requires.0)

pub overflow_mul-at : goal.overflow_mul-at
overflow_mul-at g c =
    let a = c.args in
    omega (arith, (cut_out g.row.SIZE a.rows.now a.at (2 ^ a.cell.inputs) c.requires.4).0)

pub overflow_mul-end : goal.overflow_mul-end
overflow_mul-end g c =
    let a = c.args in
    let cut = cut_out g.row.SIZE a.rows.now a.at (2 ^ a.cell.inputs) c.requires.4 in
    rw (cell_power c.requires.2).0 (omega (arith, cut.1))

pub slice_bounds-bits_of-end : goal.slice_bounds-bits_of-end
slice_bounds-bits_of-end g c =
    let a = c.args in
    let cut = cut_out g.row.SIZE a.rows.now a.at (2 ^ a.cell.inputs) c.requires.4 in
    rw (cell_power c.requires.2).0 (omega (arith, cut.1))

pub returns : goal.returns
unfolding room
returns g c =
    let a = c.args in
    let power = (cell_power {n = a.cell.inputs} c.requires.2).0 in
    let cut = cut_out g.row.SIZE a.rows.now a.at (2 ^ a.cell.inputs) c.requires.4 in
    let few : a.cell.outputs ≤ 16 = omega (arith, c.requires.3, c.requires.1) in
    let small = pow_mono few in
    let whole : 1 * 2 ^ a.cell.outputs % 2 ^ 64 ≡ 2 ^ a.cell.outputs = omega (arith, small) in
    let part = rw power at (c.from.ensures ∙ c.bits_of-seen.ensures) ∙ ap (λ (n : ℕ). bits_of g.row.SIZE (take n (drop (a.at * g.row.SIZE) a.rows.now))) cut.2 in
    ap₂ ltb part whole ∙ bits_below g.row.SIZE c.requires.0 a.rows.now a.at a.cell.outputs (2 ^ a.cell.inputs) c.requires.4
