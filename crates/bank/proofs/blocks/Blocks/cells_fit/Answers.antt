-- `bank::blocks::Blocks::cells_fit` meets its contract.
-- Assumes nothing.
use mathlib.Core.Path.{◌≡◌, refl, ◌∙◌, ap}
use Prim.Native.Nat.{ℕ, ◌+◌}
use native.Mathlib.Omega.{arith}
use mathlib.Core.Bool.{◌&&◌}
use lib.Dec.{leb}
use Rattle.bank.proofs.timing.DueTests.{fit_next}
use Rattle.bank.proofs.blocks.Blocks.cells_fit.Goals as goal

pub loop-number-init : goal.loop-number-init
loop-number-init c = refl

pub cells_due-requires : goal.cells_due-requires
cells_due-requires c = c.cell_counts-counts.ensures

pub loop-number-preserved : goal.loop-number-preserved
loop-number-preserved c =
    let l = c.loop-number in
    let a = c.args in
    let k = a.self.bank.now in
    ap (λ (x : ℕ). l.good && leb (c.cells_due.result + c.cells_due-in-loop-number.result) x) c.from-limit.ensures
    ∙ fit_next k k.count a.timing.period a.timing.phase a.cells l.number l.invariant c.cells_due.ensures.0 c.cells_due-in-loop-number.ensures.0

pub returns : goal.returns
returns c =
    let l = c.loop-number in
    let e : l.number ≡ 8 = omega arith in
    rw e at l.invariant
