-- `reduction::links::spread` meets its contract.
-- Assumes nothing.
use native.Mathlib.Nat.{not-suc-le-zero}
use Rattle.reduction.proofs.links.FirstBytes.{spread_next}
use Rattle.reduction.proofs.links.spread.Goals as goal

pub loop-x-init : goal.loop-x-init
loop-x-init c = record {
  full = c.requires.2;
  byte = λ x i k. absurd (not-suc-le-zero k);
  short = λ x i k. absurd (not-suc-le-zero k);
}

pub loop-x-preserved : goal.loop-x-preserved
loop-x-preserved c =
    let l = c.loop-x in
    let a = c.args in
    let s = c.spread_byte in rw s.ensures.bytes_after
    (spread_next a.w a.words.now a.size a.firsts.now l.x l.bytes c.requires.0 c.loop-x-test.true l.invariant s.ensures.short)
