-- `bank::blocks::Blocks::next_due` meets its contract.
-- Assumes nothing.
use mathlib.Core.Path.{◌≡◌}
use Rattle.bank.proofs.timing.DueTests.{found}
use Rattle.bank.proofs.blocks.Blocks.next_due.Given as goal

abbrev pub invariant-loop-i : goal.invariant-loop-i
invariant-loop-i l = found l.self.bank.now l.number l.self.bank.now.count l.i ≡ found l.self.bank.now l.number l.self.bank.now.count l.b
