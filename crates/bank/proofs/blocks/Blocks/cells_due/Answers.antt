-- `bank::blocks::Blocks::cells_due` meets its contract.
-- Assumes nothing.
use mathlib.Core.Path.{◌≡◌, ◌∙◌, ap}
use mathlib.Core.List.{List}
use Prim.Native.Nat.{ℕ, ◌<◌}
use native.Mathlib.Omega.{arith}
use lib.ListN.{get_or}
use Rattle.bank.proofs.formed.HeldBlocks.{block_at, cells_at_most}
use Rattle.bank.proofs.timing.DueTests.{no_cells, cells-next, due_cells_are}
use Rattle.bank.proofs.blocks.CountedCells.{count_at}
use Rattle.bank.proofs.blocks.Blocks.cells_due.Goals as goal

pub loop-b-init : goal.loop-b-init
loop-b-init c = (no_cells c.args.self.bank.now c.args.number, omega arith)

pub loop-b-preserved : goal.loop-b-preserved
loop-b-preserved c =
    let l = c.loop-b in
    let s = c.args.self in
    let k = s.bank.now in
    let h = c.cells_due-cells.ensures in
    let here : l.b < k.count = omega arith in
    let cells = c.from.ensures ∙ ap (λ (x : List ℕ). get_or x l.b 0) c.requires ∙ count_at k k.count l.b s.few here in (
      cells-next k c.args.number l.b l.invariant.0 (due_cells_are k c.args.number l.b c.timing.ensures.0 c.timing.ensures.1 cells h.0),
      omega (arith, h.1, l.invariant.1, cells, cells_at_most k l.b (block_at k s.formed l.b here)),
    )

pub returns : goal.returns
returns c =
    let l = c.loop-b in
    let few = c.args.self.few in
    let e : l.b ≡ c.args.self.bank.now.count = omega arith in
    (rw e at l.invariant.0, omega (arith, few, l.invariant.1))
