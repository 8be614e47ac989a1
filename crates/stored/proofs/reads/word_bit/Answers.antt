-- `word_bit` reads a bit of a word.
-- Assumes nothing.
use mathlib.Core.Path.{sym}
use Rattle.laws.proofs.Bits.{bit_past}
use native.Mathlib.Omega.{arith}
use Rattle.stored.proofs.reads.word_bit.Goals as goal

pub returns : goal.returns
returns c = let a = c.args in sym (bit_past a.word 16 a.v (omega arith) (omega arith))
