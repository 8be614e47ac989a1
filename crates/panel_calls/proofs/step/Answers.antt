-- `panel_calls::step` meets its contract.
-- Assumes nothing.
use mathlib.Core.Path.{◌≡◌, refl, ◌∙◌}
use Rattle.bank_spec.specs.Calls.{step}
use Rattle.panel_calls.specs.StateBytes.{step_bytes, state_in, scan_lent}
use Rattle.panel_calls.proofs.LentBytes.{same-call, called_in, numbers_given, scan-went, scan-unread}
use Rattle.panel_calls.proofs.step.Goals as goal
use Rattle.panel_calls.proofs.step.Goals.{in-Went, in_default}

pub returns : goal.returns
unfolding step_bytes
returns c =
    let a = c.args in
    let r = c.step-stepped.result in
    let k = c.bank_in in
    let s = c.scan_in in
    let e = called_in step a.bank.now a.scan.now a.rows.now k.result s.result c.step-stepped.ensures k.ensures s.ensures in
    let scan : c.match-stepped.scan ≡ scan_lent (step (state_in a.bank.now a.scan.now a.rows.now)) a.scan.now =
    elim c.match-stepped.branch [
      | in-Went w ↦ w.scan-is ∙ w.put_scan.ensures ∙ scan-went r.answer k.result r.scan a.rows.now _ e a.scan.now w.in-Went.is
      | in_default w ↦ w.scan-is ∙ scan-unread r.answer k.result r.scan a.rows.now _ e a.scan.now w.in_default.not-Went
    ] in
    same-call (c.from.ensures ∙ numbers_given r.answer k.result r.scan a.rows.now _ e) refl scan refl
