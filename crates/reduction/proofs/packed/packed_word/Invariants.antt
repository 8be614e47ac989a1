-- `reduction::packed::packed_word` meets its contract.
-- Assumes nothing.
use mathlib.Core.Path.{◌≡◌}
use Prim.Native.Nat.{◌+◌, ◌*◌, ◌^◌}
use lib.ListN.{get_or}
use Rattle.laws.specs.Bits.{marks}
use Rattle.reduction.proofs.packed.packed_word.Given as goal

abbrev pub invariant-loop-j : goal.invariant-loop-j
invariant-loop-j l = l.word ≡ marks 0 (λ j. get_or l.places (l.i * 8 + j) 0 * 2 ^ (j * 8)) l.j
