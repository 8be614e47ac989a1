-- `bank::stepping::Running::moved_on` meets its contract.
-- Assumes nothing.
use mathlib.Core.Path.{◌≡◌, sym, ◌∙◌}
use Prim.Native.Nat.{◌+◌}
use native.Mathlib.Omega.{arith}
use Rattle.bank_spec.specs.Calls.{outputs_of}
use Rattle.bank.proofs.stepping.NextRead.{cell_below, block_held}
use Rattle.bank.proofs.stepping.StepCases.{next-cell, next-block}
use Rattle.bank.proofs.stepping.Running.moved_on.Goals as goal

pub overflow_add-result : goal.overflow_add-result
overflow_add-result c =
    let s = c.args.self.now in
    let k = s.blocks.bank.now in
    let t = s.scan.now in
    let h = cell_below k t s.formed s.runs in
    record { fits = omega arith }

pub returns-then-more_cells : goal.returns-then-more_cells
unfolding outputs_of
returns-then-more_cells c =
    let s = c.args.self.now in
    let k = s.blocks.bank.now in
    let t = s.scan.now in
    next-cell k t c.args.x c.put_outputs.ensures (sym c.more_cells.ensures ∙ c.if-more_cells.true) c.rail_after.ensures

pub scan_from-requires : goal.scan_from-requires
scan_from-requires c =
    let s = c.args.self.now in
    let k = s.blocks.bank.now in
    let t = s.scan.now in
    let h = block_held k t s.formed s.runs in
    omega (arith, c.from.ensures, h)

pub returns : goal.returns
unfolding outputs_of
returns c =
    let s = c.args.self.now in
    let k = s.blocks.bank.now in
    let t = s.scan.now in
    let e : c.from.result + 1 ≡ t.block + 1 = omega (arith, c.from.ensures) in
    next-block k t c.args.x c.put_outputs.ensures (sym c.more_cells.ensures ∙ c.if-more_cells.false) e c.scan_from.ensures
