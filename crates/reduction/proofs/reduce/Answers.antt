-- `reduction::reduce` meets its contract.
-- Assumes nothing.
use mathlib.Core.Path.{◌≡◌, sym, ◌∙◌, ap}
use Prim.Native.Nat.{ℕ}
use native.Mathlib.Omega.{arith}
use Rattle.std.specs.Prelude.{Result, Err}
use Rattle.std.proofs.lemmas.Grind.{common_steps}
use Rattle.refusals.specs.declared.Refusal.{Refusal}
use Rattle.refusals.proofs.Promises.{never-zero}
use Rattle.sheet_spec.specs.Given.{job_given}
use Rattle.reduction_spec.specs.Given.{reduction_given}
use Rattle.reduction_spec.specs.Reduction.{reduction_refusal}
use Rattle.reduction_spec.proofs.LentAfter.{same-reduced, refusal_is, kept-widths, kept-words, few-variables, node-count, words-few, copied_widths, copied_words}
use Rattle.reduction.proofs.StdSteps.{copied_front}
use Rattle.reduction.proofs.reduce.Goals as goal

pub returns-in_err-nodes : goal.returns-in_err-nodes
returns-in_err-nodes c =
    let a = c.args in
    let j = job_given a.job.now in
    let s = a.sheet.now in
    let r = c.in_err-nodes.field-0.0 in
    let e = c.in_err-nodes.ensures.value in
    let same : ◌≡◌ {A = Result ℕ Refusal} c.from_residual.result (Err r) = grind (arith, common_steps) in
    let refused : reduction_refusal j s ≡ 0 → ⊥ = λ z. never-zero r (refusal_is j s (reduction_given (Err r)) e ∙ z) in
    same-reduced (ap reduction_given same ∙ e) (kept-widths j s refused a.widths.now) (kept-words j s refused a.words.now)

pub overflow_add-height : goal.overflow_add-height
overflow_add-height c =
    let a = c.args in
    omega (arith, few-variables (job_given a.job.now) a.sheet.now (sym (refusal_is (job_given a.job.now) a.sheet.now _ c.in_ok-nodes.ensures.value)))

pub slice_bounds-copy_from_slice-end : goal.slice_bounds-copy_from_slice-end
slice_bounds-copy_from_slice-end c =
    let a = c.args in
    few-variables (job_given a.job.now) a.sheet.now (sym (refusal_is (job_given a.job.now) a.sheet.now _ c.in_ok-nodes.ensures.value))

pub slice_bounds-copy_from_slice-end-4 : goal.slice_bounds-copy_from_slice-end-4
slice_bounds-copy_from_slice-end-4 c =
    let a = c.args in
    let j = job_given a.job.now in
    let s = a.sheet.now in
    let r = c.in_ok-nodes in
    let e : reduction_refusal j s ≡ 0 = sym (refusal_is j s _ r.ensures.value) in
    omega (arith, words-few j s e _ r.ensures.value, c.from-count.ensures)

pub returns : goal.returns
returns c =
    let a = c.args in
    let j = job_given a.job.now in
    let s = a.sheet.now in
    let r = c.in_ok-nodes in
    let e : reduction_refusal j s ≡ 0 = sym (refusal_is j s _ r.ensures.value) in
    same-reduced r.ensures.value
    (copied_front _ c.reduce_all.new.widths a.widths.now _ c.copy_from_slice.ensures.after (omega (arith, few-variables j s e, c.reduce_all.array_long)) (omega (arith, few-variables j s e, c.told-widths)) ∙ copied_widths j s e _ a.widths.now (r.ensures.widths_after e))
    (copied_front _ c.reduce_all.new.words a.words.now _ c.copy_from_slice-2.ensures.after (omega (arith, words-few j s e _ r.ensures.value, c.from-count.ensures, c.reduce_all.array_long2)) (omega (arith, words-few j s e _ r.ensures.value, c.from-count.ensures, c.told-words)) ∙ copied_words j s e _ a.words.now c.from-count.result (r.ensures.words_after e) (c.from-count.ensures ∙ node-count j s e _ r.ensures.value))
