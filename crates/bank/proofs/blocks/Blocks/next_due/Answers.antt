-- `bank::blocks::Blocks::next_due` meets its contract.
-- Assumes nothing.
use mathlib.Core.Path.{◌≡◌, refl, sym, ◌∙◌}
use native.Mathlib.Omega.{arith}
use Rattle.bank.proofs.timing.DueTests.{found_here, found_later, found_none, found_is}
use Rattle.bank.proofs.blocks.Blocks.next_due.Goals as goal

pub loop-i-init : goal.loop-i-init
loop-i-init c = refl

pub returns-then-due : goal.returns-then-due
returns-then-due c =
    let a = c.args in
    let k = a.self.bank.now in
    let l = c.loop-i in
    sym (found_here k a.number k.count l.i (omega arith) (sym c.due.ensures ∙ c.if-due.true)) ∙ l.invariant ∙ found_is k a.number a.b refl

pub loop-i-preserved : goal.loop-i-preserved
loop-i-preserved c =
    let a = c.args in
    let k = a.self.bank.now in
    let l = c.loop-i in
    sym (found_later k a.number k.count l.i (omega arith) (sym c.due.ensures ∙ c.if-due.false)) ∙ l.invariant

pub returns : goal.returns
returns c =
    let a = c.args in
    let k = a.self.bank.now in
    let l = c.loop-i in
    let here : c.count.result ≡ l.i = omega arith in
    here ∙ sym (found_none k a.number k.count l.i (omega arith)) ∙ l.invariant ∙ found_is k a.number a.b refl
