-- `sheet::pairs::add_kinds` meets its contract.
-- Assumes nothing.
use mathlib.Core.Path.{◌≡◌}
use Prim.Native.Nat.{◌*◌, ◌%◌}
use lib.Bits.{bit_or}
use lib.ListN.{get_or}
use Rattle.laws.specs.Lists.{puts}
use Rattle.sheet_spec.specs.Records.{kind}
use Rattle.sheet.proofs.pairs.add_kinds.Given as goal

abbrev pub invariant-loop-r : goal.invariant-loop-r
invariant-loop-r l =
    (l.tests.masks ≡ puts l.r (λ k. bit_or (get_or l.initial.tests.masks k 0) 32768) l.initial.tests.masks) × (l.tests.values ≡ puts l.r (λ k. bit_or (get_or l.initial.tests.values k 0) (kind l.sheet.bytes.now k % 2 * 32768)) l.initial.tests.values)
