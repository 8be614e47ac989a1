-- `take_apart` reads each record.
-- Assumes nothing.
use mathlib.Core.Path.{◌≡◌}
use lib.ListN.{replicate}
use Rattle.laws.specs.Lists.{puts}
use Rattle.stored_spec.specs.ReadWrite.{no_record, record_at}
use Rattle.stored.proofs.read_write.take_apart.Given as goal

abbrev pub invariant-loop-i : goal.invariant-loop-i
invariant-loop-i l = l.records ≡ puts l.i (record_at l.bytes) (replicate 20 no_record)
