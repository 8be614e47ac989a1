-- `bank::blocks::Blocks::rows_before` meets its contract.
-- Assumes nothing.
use mathlib.Core.Path.{◌≡◌}
use Prim.Native.Nat.{◌≤◌, ◌*◌}
use Rattle.bank_spec.specs.State.{rows_before}
use Rattle.bank.proofs.blocks.Blocks.rows_before.Given as goal

abbrev pub invariant-loop-b : goal.invariant-loop-b
invariant-loop-b l = (l.rows ≡ rows_before l.self.bank.now l.b) × (l.rows ≤ l.b * 32768)
