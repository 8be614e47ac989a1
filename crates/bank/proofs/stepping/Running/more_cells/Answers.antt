-- `bank::stepping::Running::more_cells` meets its contract.
-- Assumes nothing.
use mathlib.Core.Path.{◌∙◌, ap, ap₂}
use Prim.Native.Nat.{ℕ, ◌+◌}
use native.Mathlib.Omega.{arith}
use lib.Dec.{ltb}
use Rattle.stored_spec.specs.StoredForm.{cell_count}
use Rattle.bank_spec.specs.State.{records_of}
use Rattle.bank.proofs.stepping.NextRead.{block_held, cell_below}
use Rattle.bank.proofs.stepping.Running.more_cells.Goals as goal

pub overflow_add-result : goal.overflow_add-result
overflow_add-result c =
    let s = c.args.self.now in
    let k = s.blocks.bank.now in
    let t = s.scan.now in
    let h = cell_below k t s.formed s.runs in
    record { fits = omega (arith, c.from.ensures) }

pub cells-requires : goal.cells-requires
cells-requires c =
    let s = c.args.self.now in
    let k = s.blocks.bank.now in
    let t = s.scan.now in
    omega (arith, c.from-2.ensures, block_held k t s.formed s.runs)

pub returns : goal.returns
returns c =
    let s = c.args.self.now in
    let k = s.blocks.bank.now in
    let t = s.scan.now in
    ap₂ (λ (x y : ℕ). ltb (x + 1) y) c.from.ensures
    (c.cells.ensures.0 ∙ ap (λ (i : ℕ). cell_count (records_of k i)) c.from-2.ensures)
