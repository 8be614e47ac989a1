-- `panel_calls::admit_every` meets its contract.
-- Assumes nothing.
use mathlib.Core.Path.{refl, ◌∙◌, ap}
use Rattle.refusals.specs.Numbers.{number}
use Rattle.refusals.proofs.Promises.{never-zero}
use Rattle.bank_spec.specs.State.{State}
use Rattle.bank_spec.specs.Calls.{handed, After, admit}
use Rattle.panel_calls.specs.StateBytes.{admit_bytes}
use Rattle.panel_calls.proofs.LentBytes.{same-call, called_in, number_given, bank-accepted, bank-refused, scan-accepted, scan-refused}
use Rattle.panel_calls.proofs.admit_every.Goals as goal

pub returns-in-Ok : goal.returns-in-Ok
unfolding admit_bytes
returns-in-Ok c =
    let a = c.args in
    let k = c.bank_in-held in
    let s = c.scan_in-before in
    let rows = c.admit_every.new.rows in
    let e = called_in (λ (x : State). admit x (handed a.records.now a.bytes.now a.period a.phase)) a.bank.now a.scan.now a.rows.now k.result s.result c.in-Ok.ensures k.ensures s.ensures in
    same-call (number_given 0 c.in-Ok.more c.in-Ok.fresh rows _ e)
    (c.put_bank.ensures ∙ bank-accepted 0 c.in-Ok.more c.in-Ok.fresh rows _ e a.bank.now refl)
    (c.put_scan.ensures ∙ scan-accepted 0 c.in-Ok.more c.in-Ok.fresh rows _ e a.scan.now refl)
    (ap (λ (x : After State). x.state.rows) e)

pub returns-in-Err : goal.returns-in-Err
unfolding admit_bytes
returns-in-Err c =
    let a = c.args in
    let r = c.in-Err.refusal in
    let k = c.bank_in-held in
    let s = c.scan_in-before in
    let rows = c.admit_every.new.rows in
    let e = called_in (λ (x : State). admit x (handed a.records.now a.bytes.now a.period a.phase)) a.bank.now a.scan.now a.rows.now k.result s.result c.in-Err.ensures k.ensures s.ensures in
    same-call (c.from.ensures ∙ number_given (number r) k.result s.result rows _ e)
    (bank-refused (number r) k.result s.result rows _ e a.bank.now (never-zero r))
    (scan-refused (number r) k.result s.result rows _ e a.scan.now (never-zero r))
    (ap (λ (x : After State). x.state.rows) e)
