-- `bank::blocks::Blocks::cells_fit` meets its contract.
-- Assumes nothing.
use mathlib.Core.Path.{◌≡◌}
use Rattle.laws.specs.Tests.{every}
use Rattle.bank.proofs.timing.DueTests.{fits_at}
use Rattle.bank.proofs.blocks.Blocks.cells_fit.Given as goal

abbrev pub invariant-loop-number : goal.invariant-loop-number
invariant-loop-number l =
    l.good ≡ every l.number (fits_at l.self.bank.now l.self.bank.now.count l.timing.period l.timing.phase l.cells)
