-- `bank::formed::scan_formed` meets its contract.
-- Assumes nothing.
use mathlib.Core.Path.{sym, ◌∙◌}
use native.Mathlib.Omega.{arith}
use Rattle.bank.proofs.formed.HeldBlocks.{number-high, not_running, no_block, not-due, in_block}
use Rattle.bank.proofs.formed.scan_formed.Goals as goal

pub returns-then-scan-gt7 : goal.returns-then-scan-gt7
returns-then-scan-gt7 c = let a = c.args in number-high a.blocks.bank.now a.scan.now c.if-scan-gt7.true

pub returns-then-not-scan : goal.returns-then-not-scan
returns-then-not-scan c = let a = c.args in not_running a.blocks.bank.now a.scan.now (omega (arith, c.if-scan-gt7.false)) c.if-not-scan.true

pub returns-then-count-b : goal.returns-then-count-b
returns-then-count-b c =
    let a = c.args in
    no_block a.blocks.bank.now a.scan.now (omega (arith, c.if-scan-gt7.false)) c.if-not-scan.false (omega (arith, c.from-b.ensures, c.count.ensures, c.if-count-b.true))

pub returns-then-due : goal.returns-then-due
returns-then-due c =
    let a = c.args in
    let e = c.from-b.ensures in
    in_block a.blocks.bank.now a.scan.now (omega (arith, c.if-scan-gt7.false)) c.if-not-scan.false (omega (arith, e, c.count.ensures, c.if-count-b.false)) e c.from.ensures
    (sym c.due.ensures ∙ c.if-due.true) (rw c.from-then-due.ensures at c.read_formed.ensures)

pub returns : goal.returns
returns c =
    let a = c.args in
    let e = c.from-b.ensures in
    not-due a.blocks.bank.now a.scan.now (omega (arith, c.if-scan-gt7.false)) c.if-not-scan.false (omega (arith, e, c.count.ensures, c.if-count-b.false)) e
    (sym c.due.ensures ∙ c.if-due.false)
