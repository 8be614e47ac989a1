-- `bank::blocks::Blocks::cells_due` meets its contract.
-- Assumes nothing.
use mathlib.Core.Path.{◌≡◌}
use Prim.Native.Nat.{◌≤◌, ◌*◌}
use Rattle.bank_spec.specs.State.{cells_before}
use Rattle.bank.proofs.blocks.Blocks.cells_due.Given as goal

abbrev pub invariant-loop-b : goal.invariant-loop-b
invariant-loop-b l = (l.cells ≡ cells_before l.self.bank.now l.number l.b) × (l.cells ≤ l.b * 20)
