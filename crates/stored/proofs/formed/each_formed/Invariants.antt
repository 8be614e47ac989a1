-- `each_formed` tests each record, by its bytes and by the bit of its variable.
-- Assumes nothing.
use mathlib.Core.Path.{◌≡◌}
use mathlib.Core.Bool.{true}
use Rattle.laws.specs.Bits.{marks}
use Rattle.laws.specs.Tests.{every}
use Rattle.stored.proofs.formed.RecordBits.{bytes_formed, place_first, bit_at}
use Rattle.stored.proofs.formed.each_formed.Given as goal

abbrev pub invariant-loop-i : goal.invariant-loop-i
invariant-loop-i l =
    (every l.i (bytes_formed l.records) ≡ true) × (every l.i (place_first l.records) ≡ true) × (l.seen ≡ marks 0 (bit_at l.records) l.i)
