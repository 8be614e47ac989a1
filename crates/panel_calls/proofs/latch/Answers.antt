-- `panel_calls::latch` meets its contract.
-- Assumes nothing.
use mathlib.Core.Path.{refl, ◌∙◌}
use mathlib.Core.List.{[]}
use Rattle.refusals.specs.Numbers.{number}
use Rattle.refusals.proofs.Promises.{never-zero}
use Rattle.bank_spec.specs.State.{State}
use Rattle.bank_spec.specs.Calls.{latch}
use Rattle.panel_calls.specs.StateBytes.{latch_bytes}
use Rattle.panel_calls.proofs.LentBytes.{same-call, called_in, number_given, scan-accepted, scan-refused}
use Rattle.panel_calls.proofs.latch.Goals as goal

pub returns-in-Ok : goal.returns-in-Ok
unfolding latch_bytes
returns-in-Ok c =
    let a = c.args in
    let k = c.bank_in in
    let s = c.scan_in in
    let e = called_in (λ (x : State). latch x a.words.now) a.bank.now a.scan.now [] k.result s.result (c.in-Ok.ensures []) k.ensures s.ensures in
    same-call (number_given 0 k.result c.in-Ok.begun [] _ e) refl
    (c.put_scan.ensures ∙ scan-accepted 0 k.result c.in-Ok.begun [] _ e a.scan.now refl)
    refl

pub returns-in-Err : goal.returns-in-Err
unfolding latch_bytes
returns-in-Err c =
    let a = c.args in
    let r = c.in-Err.refusal in
    let k = c.bank_in in
    let s = c.scan_in in
    let e = called_in (λ (x : State). latch x a.words.now) a.bank.now a.scan.now [] k.result s.result (c.in-Err.ensures []) k.ensures s.ensures in
    same-call (c.from.ensures ∙ number_given (number r) k.result s.result [] _ e) refl
    (scan-refused (number r) k.result s.result [] _ e a.scan.now (never-zero r))
    refl
