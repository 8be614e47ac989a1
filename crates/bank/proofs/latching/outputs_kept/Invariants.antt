-- `bank::latching::outputs_kept` meets its contract.
-- Assumes nothing.
use mathlib.Core.Path.{◌≡◌}
use Rattle.laws.specs.Lists.{puts}
use Rattle.bank.proofs.latching.LatchCases.{output_in}
use Rattle.bank.proofs.latching.outputs_kept.Given as goal

abbrev pub invariant-loop-i : goal.invariant-loop-i
invariant-loop-i l = l.kept ≡ puts l.i (output_in l.blocks.bank.now l.number l.old) l.initial.kept
