-- `bank::formed::bank_formed` meets its contract.
-- Assumes nothing.
use mathlib.Core.Path.{sym, ◌∙◌, ap, ap₂}
use mathlib.Core.Bool.{Bool, ◌&&◌}
use Prim.Native.Nat.{ℕ}
use lib.Dec.{leb}
use Rattle.laws.specs.Tests.{every}
use Rattle.bank_spec.specs.State.{block_formed, rows_before}
use Rattle.bank.proofs.blocks.CountedCells.{timed_1, none_more}
use Rattle.bank.proofs.formed.HeldBlocks.{limit-low, limit-high, blocks_many, blocks_bad, blocks-good}
use native.Mathlib.Omega.{arith}
use Rattle.bank.proofs.formed.bank_formed.Goals as goal

pub returns-then-limit-lt1 : goal.returns-then-limit-lt1
returns-then-limit-lt1 c = limit-low c.args.bank.now c.if-limit-lt1.true

pub returns-then-limit-gt-MOST_SCAN : goal.returns-then-limit-gt-MOST_SCAN
returns-then-limit-gt-MOST_SCAN c = limit-high c.args.bank.now c.if-limit-gt-MOST_SCAN.true

pub returns-then-count-gt-MOST_BLOCKS : goal.returns-then-count-gt-MOST_BLOCKS
returns-then-count-gt-MOST_BLOCKS c =
    blocks_many c.args.bank.now (omega (arith, c.if-limit-lt1.false)) c.if-limit-gt-MOST_SCAN.false (omega (arith, c.from-count.ensures, c.if-count-gt-MOST_BLOCKS.true))

pub invariant_of-blocks : goal.invariant_of-blocks
invariant_of-blocks c =
    let e = c.from-count.ensures in
    record {
      few = omega (arith, e, c.if-count-gt-MOST_BLOCKS.false);
      formed = ap (λ (n : ℕ). every n (block_formed c.args.bank.now)) (sym e) ∙ sym c.blocks_formed.ensures ∙ c.if-blocks_formed.true;
    }

pub invariant_of-every_scan : goal.invariant_of-every_scan
invariant_of-every_scan c = record { timed = timed_1 }

pub returns-then-blocks_formed : goal.returns-then-blocks_formed
returns-then-blocks_formed c =
    let k = c.args.bank.now in
    let e = c.from-count.ensures in
    ap₂ (λ (t : Bool) (y : ℕ). t && leb y 32768)
    (c.cells_fit-fit.ensures ∙ none_more k k.count) (c.rows_before.ensures.0 ∙ ap (rows_before k) e)
    ∙ blocks-good k (omega (arith, c.if-limit-lt1.false)) c.if-limit-gt-MOST_SCAN.false (omega (arith, e, c.if-count-gt-MOST_BLOCKS.false))
    (ap (λ (n : ℕ). every n (block_formed k)) (sym e) ∙ sym c.blocks_formed.ensures ∙ c.if-blocks_formed.true)

pub returns : goal.returns
returns c =
    let k = c.args.bank.now in
    let e = c.from-count.ensures in
    blocks_bad k (omega (arith, c.if-limit-lt1.false)) c.if-limit-gt-MOST_SCAN.false (omega (arith, e, c.if-count-gt-MOST_BLOCKS.false))
    (ap (λ (n : ℕ). every n (block_formed k)) (sym e) ∙ sym c.blocks_formed.ensures ∙ c.if-blocks_formed.false)
