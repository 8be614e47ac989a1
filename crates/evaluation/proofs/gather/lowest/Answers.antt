-- `evaluation::gather::lowest` finds the lowest bit that is 1.
-- Assumes nothing.
use native.Mathlib.Omega.{arith}
use lib.Count.{count_trailing_zeros, trailing_le}
use Rattle.laws.proofs.Bits.{has_past}
use Rattle.laws.proofs.Cases.{by_less}
use Rattle.laws.proofs.Masks.{not-both}
use Rattle.evaluation.proofs.gather.SetWords.{zeros_below, one_there}
use Rattle.evaluation.proofs.gather.lowest.Goals as goal

pub overflow_cast-result : goal.overflow_cast-result
overflow_cast-result c = omega (arith, trailing_le 64 c.args.word)

pub returns : goal.returns
returns c =
    let x = c.args.word in
    let there = one_there 64 x c.ranges.word.fits c.requires in (
      by_less (count_trailing_zeros 64 x) 64 (λ l. l) (λ l. not-both there (has_past x 64 (count_trailing_zeros 64 x) c.ranges.word.fits l)),
      zeros_below 64 x,
      there,
    )
