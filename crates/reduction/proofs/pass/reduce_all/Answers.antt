-- `reduction::pass::reduce_all` meets its contract.
-- Assumes nothing.
use mathlib.Core.Path.{◌≡◌, refl, sym, ◌∙◌, ap}
use Prim.Native.Nat.{ℕ}
use native.Mathlib.Omega.{arith}
use Rattle.std.specs.Prelude.{Result, Err}
use Rattle.refusals.specs.declared.Refusal.{Refusal}
use Rattle.refusals.specs.Numbers.{number}
use Rattle.refusals.proofs.Promises.{never-zero}
use Rattle.sheet_spec.specs.Given.{job_given}
use Rattle.reduction_spec.specs.Given.{reduction_given}
use Rattle.reduction_spec.proofs.ReductionCases.{refused-not, wide_not, answer-sheet, answer_7, answer-made}
use Rattle.reduction.proofs.pass.Loop.{over, not_over, nodes_16}
use Rattle.std.proofs.lemmas.Grind.{common_steps}
use Rattle.reduction.proofs.pass.reduce_all.Goals as goal

pub returns-in_err-fill_planes : goal.returns-in_err-fill_planes
returns-in_err-fill_planes c =
    let a = c.args in
    let j = job_given a.job.now in
    let r = c.in_err-fill_planes.field-0.0 in
    let f = c.in_err-fill_planes.ensures in
    let same : ◌≡◌ {A = Result ℕ Refusal} c.from_residual.result (Err r) = grind (arith, common_steps) in
    record {
      value = ap reduction_given same ∙ answer-sheet j a.sheet.now (number r) f.value (never-zero r);
      widths_after = (λ e. absurd (refused-not j a.sheet.now (λ z. never-zero r (f.value ∙ z)) e));
      words_after = (λ e. absurd (refused-not j a.sheet.now (λ z. never-zero r (f.value ∙ z)) e));
    }

pub returns-in_err-nodes : goal.returns-in_err-nodes
returns-in_err-nodes c =
    let a = c.args in
    let j = job_given a.job.now in
    let f = c.in_ok-fill_planes.ensures in
    let r = c.in_err-nodes.field-0.0 in
    let wide = over j a.sheet.now r (c.in_err-nodes.ensures a.sheet.now (sym f.value, f.zero_after refl, f.one_after refl)).0 in
    let same : ◌≡◌ {A = Result ℕ Refusal} c.from_residual-in_err-nodes.result (Err r) = grind (arith, common_steps) in
    record {
      value = ap reduction_given (same ∙ ap Err wide.0) ∙ answer_7 j a.sheet.now (sym f.value) wide.1;
      widths_after = (λ x. absurd (wide_not j a.sheet.now (sym f.value) wide.1 x));
      words_after = (λ x. absurd (wide_not j a.sheet.now (sym f.value) wide.1 x));
    }

pub overflow_cast-result : goal.overflow_cast-result
overflow_cast-result c =
    let a = c.args in
    let j = job_given a.job.now in
    let f = c.in_ok-fill_planes.ensures in
    let d = not_over j a.sheet.now c.in_ok-nodes.nodes (c.in_ok-nodes.ensures a.sheet.now (sym f.value, f.zero_after refl, f.one_after refl)).0 in
    omega (arith, d.0, nodes_16 j a.sheet.now (sym f.value) d.1)

pub returns : goal.returns
returns c =
    let a = c.args in
    let j = job_given a.job.now in
    let f = c.in_ok-fill_planes.ensures in
    let h = c.in_ok-nodes.ensures a.sheet.now (sym f.value, f.zero_after refl, f.one_after refl) in
    let d = not_over j a.sheet.now c.in_ok-nodes.nodes h.0 in
    record {
      value = answer-made j a.sheet.now _ (sym f.value) d.1 d.0;
      widths_after = (λ x. (h.1 d.1).0);
      words_after = (λ x. (h.1 d.1).1);
    }
