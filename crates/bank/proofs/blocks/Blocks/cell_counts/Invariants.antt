-- `bank::blocks::Blocks::cell_counts` meets its contract.
-- Assumes nothing.
use mathlib.Core.Path.{◌≡◌}
use Rattle.laws.specs.Lists.{puts}
use Rattle.stored_spec.specs.StoredForm.{cell_count}
use Rattle.bank_spec.specs.State.{records_of}
use Rattle.bank.proofs.blocks.Blocks.cell_counts.Given as goal

abbrev pub invariant-loop-b : goal.invariant-loop-b
invariant-loop-b l = l.counts ≡ puts l.b (λ i. cell_count (records_of l.self.bank.now i)) l.initial.counts
