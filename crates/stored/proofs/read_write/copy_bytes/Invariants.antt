-- `copy_bytes` copies as many bytes as there is room for.
-- Assumes nothing.
use mathlib.Core.Path.{◌≡◌}
use lib.ListN.{length, get_or}
use Rattle.laws.specs.Lists.{puts}
use Rattle.stored.proofs.read_write.copy_bytes.Given as goal

abbrev pub invariant-loop-i : goal.invariant-loop-i
invariant-loop-i l = (l.to ≡ puts l.i (λ i. get_or l.from i 0) l.initial.to) × (length l.to ≡ length l.initial.to)
