-- `cutting::compile` meets its contract.
-- Assumes nothing.
use mathlib.Core.Path.{◌≡◌, refl, ◌∙◌, ap}
use Prim.Native.Nat.{ℕ, ◌*◌}
use lib.ListN.{get_or}
use Rattle.laws.specs.Lists.{puts}
use native.Mathlib.Omega.{arith}
use borrow.Author.Rules.{rules}
use Rattle.std.specs.Prelude.{Ok, Err}
use Rattle.refusals.specs.Numbers.{number}
use Rattle.refusals.proofs.Promises.{never-zero}
use Rattle.sheet_spec.specs.Given.{job_given}
use Rattle.reduction_spec.specs.Given.{reduction_given}
use Rattle.reduction_spec.specs.Reduction.{Reduced}
use Rattle.cutting_spec.specs.Compile.{refused}
use Rattle.cutting.specs.Outcome.{answered, compilation_given}
use Rattle.cutting.proofs.Assembled.{refused_early, asked, refused_unlisted, refused_late, kept_plan}
use Rattle.cutting.proofs.compile.Goals as goal

pub returns-in_err-made : goal.returns-in_err-made
returns-in_err-made c =
    let a = c.args in
    let none = c.in_err-made.field-0.0 in
    let same : compilation_given c.from_residual.result ≡ answered (refused (number none)) = search rules in
    refused_early (job_given a.job.now) a.sheet.now (reduction_given (Err none)) (ap (λ (x : Reduced). x.answer) c.in_err-made.ensures) (never-zero none) _ _ _ _ same

pub plan_cells-requires : goal.plan_cells-requires
plan_cells-requires c =
    let a = c.args in
    let made = c.in_ok-made in
    let least = asked (job_given a.job.now) a.sheet.now (reduction_given (Ok made.made)) (ap (λ (x : Reduced). x.answer) made.ensures) refl in
    least

pub returns-in_err-plan : goal.returns-in_err-plan
returns-in_err-plan c =
    let a = c.args in
    let e = c.in_ok-made.ensures in
    let none = c.in_err-plan.field-0.0 in
    let same : compilation_given c.from_residual-in_err-plan.result ≡ answered (refused (number none)) = search rules in
    refused_unlisted (job_given a.job.now) a.sheet.now (reduction_given (Ok c.in_ok-made.made)) (ap (λ (x : Reduced). x.answer) e) refl
    _ _ (ap (λ (x : Reduced). x.widths) e) (ap (λ (x : Reduced). x.words) e) none c.in_err-plan.ensures _ _ _ _ same

pub refuse_short-requires : goal.refuse_short-requires
refuse_short-requires c =
    let a = c.args in
    let made = c.in_ok-made in
    let least = asked (job_given a.job.now) a.sheet.now (reduction_given (Ok made.made)) (ap (λ (x : Reduced). x.answer) made.ensures) refl in
    least.1

pub returns-in_err-refuse_short : goal.returns-in_err-refuse_short
returns-in_err-refuse_short c =
    let a = c.args in
    let e = c.in_ok-made.ensures in
    let short = c.in_err-refuse_short.field-0.0 in
    let same : compilation_given c.from_residual-in_err-refuse_short.result ≡ answered (refused (number short)) = search rules in
    refused_late (job_given a.job.now) a.sheet.now (reduction_given (Ok c.in_ok-made.made)) (ap (λ (x : Reduced). x.answer) e) refl
    _ _ (ap (λ (x : Reduced). x.widths) e) (ap (λ (x : Reduced). x.words) e) c.in_ok-plan.plan c.in_ok-plan.ensures
    a.nodes.now a.records.now a.rows.now (number short) c.in_err-refuse_short.ensures (never-zero short) _ same

pub write_words-requires : goal.write_words-requires
write_words-requires c =
    let a = c.args in
    let kept = kept_plan (job_given a.job.now) a.sheet.now c.in_ok-made.made _ _ c.in_ok-plan.plan a.nodes.now a.records.now a.rows.now
    c.in_ok-made.ensures c.in_ok-plan.ensures c.in_ok-refuse_short.ensures in
    (omega (arith, c.from.ensures, kept.words-few), omega (arith, c.from.ensures, kept.nodes_fit))

pub write_records-requires : goal.write_records-requires
write_records-requires c =
    let a = c.args in
    let kept = kept_plan (job_given a.job.now) a.sheet.now c.in_ok-made.made _ _ c.in_ok-plan.plan a.nodes.now a.records.now a.rows.now
    c.in_ok-made.ensures c.in_ok-plan.ensures c.in_ok-refuse_short.ensures in
    (kept.variables, kept.cells-few, kept.records_fit)

pub invariant_of-diagram : goal.invariant_of-diagram
invariant_of-diagram c =
    let a = c.args in
    let kept = kept_plan (job_given a.job.now) a.sheet.now c.in_ok-made.made _ _ c.in_ok-plan.plan a.nodes.now a.records.now a.rows.now
    c.in_ok-made.ensures c.in_ok-plan.ensures c.in_ok-refuse_short.ensures in
    record { variables = kept.variables; columns = kept.columns }

pub write_row_bytes-requires : goal.write_row_bytes-requires
write_row_bytes-requires c =
    let a = c.args in
    let kept = kept_plan (job_given a.job.now) a.sheet.now c.in_ok-made.made _ _ c.in_ok-plan.plan a.nodes.now a.records.now a.rows.now
    c.in_ok-made.ensures c.in_ok-plan.ensures c.in_ok-refuse_short.ensures in (
      kept.cells-few,
      kept.writable,
      kept.rows_fit,
      kept.rows_few,
      kept.bytes_fit,
    )

pub overflow_cast-result : goal.overflow_cast-result
overflow_cast-result c =
    let a = c.args in
    let kept = kept_plan (job_given a.job.now) a.sheet.now c.in_ok-made.made _ _ c.in_ok-plan.plan a.nodes.now a.records.now a.rows.now
    c.in_ok-made.ensures c.in_ok-plan.ensures c.in_ok-refuse_short.ensures in
    omega (arith, kept.rows_few)

pub returns : goal.returns
returns c =
    let a = c.args in
    let kept = kept_plan (job_given a.job.now) a.sheet.now c.in_ok-made.made _ _ c.in_ok-plan.plan a.nodes.now a.records.now a.rows.now
    c.in_ok-made.ensures c.in_ok-plan.ensures c.in_ok-refuse_short.ensures in
    kept.stored _ _ _ (c.write_words.ensures ∙ ap (λ (n : ℕ). puts (n * 3) (λ i. get_or c.reduce.new.words i 0) a.nodes.now) c.from.ensures) c.write_records.ensures c.write_row_bytes.ensures
