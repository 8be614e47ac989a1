-- `panel_calls::new_bank` meets its contract.
-- Assumes nothing.
use mathlib.Core.Path.{◌≡◌, refl, ◌∙◌}
use mathlib.Core.List.{[]}
use native.Mathlib.Omega.{arith}
use borrow.Author.Rules.{rules}
use Rattle.refusals.specs.Numbers.{number}
use Rattle.refusals.proofs.Promises.{never-zero}
use Rattle.bank_spec.specs.State.{empty_bank, at_rest}
use Rattle.panel_calls.specs.StateBytes.{new_bytes, made}
use Rattle.panel_calls.proofs.LentBytes.{same-call, number_given, bank-accepted, bank-refused, scan-accepted, scan-refused, made-started, made_over}
use Rattle.panel_calls.proofs.new_bank.Goals as goal

pub returns-in_default : goal.returns-in_default
unfolding new_bytes
returns-in_default c =
    let a = c.args in
    let e = made_over a.limit (omega (arith, c.in_default.ensures)) in
    same-call (c.from.ensures ∙ number_given 1 (empty_bank 0) at_rest _ (made a.limit) e)
    (bank-refused 1 (empty_bank 0) at_rest _ (made a.limit) e a.bank.now (λ z. absurd (omega arith)))
    (scan-refused 1 (empty_bank 0) at_rest _ (made a.limit) e a.scan.now (λ z. absurd (omega arith)))
    refl

pub returns-in-Ok-start : goal.returns-in-Ok-start
unfolding new_bytes
returns-in-Ok-start c =
    let a = c.args in
    let k = c.in-Ok-start.made in
    let s = c.in-Ok-start.fresh in
    let e = let q : c.in-Ok.limit ≡ a.limit = search (rules, c.in-Ok.ensures) in rw q at (made-started c.in-Ok.limit c.in-Ok-start.ensures) in
    same-call (number_given 0 k s [] (made a.limit) e)
    (c.put_bank.ensures ∙ bank-accepted 0 k s [] (made a.limit) e a.bank.now refl)
    (c.put_scan.ensures ∙ scan-accepted 0 k s [] (made a.limit) e a.scan.now refl)
    refl

pub returns-in-Err : goal.returns-in-Err
unfolding new_bytes
returns-in-Err c =
    let a = c.args in
    let r = c.in-Err.refusal in
    let e = let q : c.in-Ok.limit ≡ a.limit = search (rules, c.in-Ok.ensures) in rw q at (made-started c.in-Ok.limit c.in-Err.ensures) in
    same-call (c.from-in-Err.ensures ∙ number_given (number r) (empty_bank 0) at_rest [] (made a.limit) e)
    (bank-refused (number r) (empty_bank 0) at_rest [] (made a.limit) e a.bank.now (never-zero r))
    (scan-refused (number r) (empty_bank 0) at_rest [] (made a.limit) e a.scan.now (never-zero r))
    refl
