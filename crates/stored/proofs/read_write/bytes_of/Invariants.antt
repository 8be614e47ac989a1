-- `bytes_of` stores each record.
-- Assumes nothing.
use mathlib.Core.Path.{◌≡◌}
use Prim.Native.Nat.{◌≤◌}
use lib.ListN.{get_or}
use lib.Seq.{sets}
use Rattle.laws.specs.Lists.{tab}
use Rattle.stored_spec.specs.ReadWrite.{record_bytes, no_record}
use Rattle.stored.proofs.read_write.bytes_of.Given as goal

abbrev pub invariant-loop-i : goal.invariant-loop-i
invariant-loop-i l =
    (l.i ≤ l.fn.from.count) × (l.bytes ≡ sets l.initial.bytes 0 (record_bytes (tab l.i (λ k. get_or l.records k no_record))))
