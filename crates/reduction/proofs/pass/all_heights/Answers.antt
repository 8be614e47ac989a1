-- `reduction::pass::all_heights` meets its contract.
-- Assumes nothing.
use mathlib.Core.Path.{◌≡◌, refl, ◌∙◌}
use Prim.Native.Nat.{ℕ, ◌-◌}
use lib.Pow.{pow_pos}
use native.Mathlib.Omega.{arith}
use Rattle.std.proofs.lemmas.Grind.{common_steps}
use Rattle.std.specs.Prelude.{Result, Err}
use Rattle.refusals.specs.declared.Refusal.{Refusal}
use Rattle.laws.proofs.Masks.{not-both}
use Rattle.sheet_spec.specs.Given.{job_given}
use Rattle.reduction.proofs.pass.Loop.{begins, sum_fits, count_fits, read_fits, width_fits, place_fits, answer-fits, height_needs, stops, goes_on_lem, end_answer}
use Rattle.reduction.proofs.pass.all_heights.Goals as goal

pub overflow_add-t : goal.overflow_add-t
overflow_add-t c =
    let a = c.args in
    let p = c.requires.accepted in
    sum_fits (job_given a.job.now) p.0 p.1

pub loop-k-init : goal.loop-k-init
loop-k-init c =
    let a = c.args in
    let e = c.requires.zeros in
    λ s b. begins (job_given a.job.now) s a.planes.now.zero a.planes.now.one a.widths.now a.words.now b e.0 e.1

pub bounds-job-k : goal.bounds-job-k
bounds-job-k c =
    let a = c.args in
    let p = c.requires.accepted in
    let l = c.loop-k in
    read_fits (job_given a.job.now) p.0 l.k l.a l.w l.at l.planes.zero l.planes.one l.link l.widths l.words (l.invariant p.0 (p.1, p.2, p.3)) c.loop-k-test.true

pub height_at-here-requires : goal.height_at-here-requires
height_at-here-requires c =
    let a = c.args in
    let p = c.requires.accepted in
    let l = c.loop-k in
    let n = height_needs (job_given a.job.now) p.0 l.k l.a l.w l.at l.planes.zero l.planes.one l.link l.widths l.words (l.invariant p.0 (p.1, p.2, p.3)) c.loop-k-test.true c.is_input-input.result c.is_input-input.ensures c.inputs_below-a.result c.inputs_below-a.ensures in
    (n.0, n.1)

pub step-requires : goal.step-requires
step-requires c =
    let a = c.args in
    let p = c.requires.accepted in
    let l = c.loop-k in
    let n = height_needs (job_given a.job.now) p.0 l.k l.a l.w l.at l.planes.zero l.planes.one l.link l.widths l.words (l.invariant p.0 (p.1, p.2, p.3)) c.loop-k-test.true c.is_input-input.result c.is_input-input.ensures c.inputs_below-a.result c.inputs_below-a.ensures in
    rw c.height_at-here.ensures (n.2, n.4, pow_pos (c.inputs_below-a.result - 3), n.5, n.6, n.0, n.7)

pub returns-in_err-count : goal.returns-in_err-count
returns-in_err-count c =
    let a = c.args in
    let l = c.loop-k in
    let x = c.is_input-input in
    let y = c.inputs_below-a in
    let r = c.in_err-count.field-0.0 in
    let same : ◌≡◌ {A = Result ℕ Refusal} c.from_residual.result (Err r) = grind (arith, common_steps) in
    λ s b.
    let wide = stops (job_given a.job.now) s l.k l.a l.w l.at l.planes.zero l.planes.one l.link l.widths l.words (l.invariant s b) c.loop-k-test.true x.result x.ensures y.result y.ensures r (rw c.height_at-here.ensures at c.in_err-count.ensures.value) in
    (same ∙ wide.0, λ e. not-both wide.1 e)

pub overflow_cast-widths : goal.overflow_cast-widths
overflow_cast-widths c =
    let a = c.args in
    let p = c.requires.accepted in
    let l = c.loop-k in
    let x = c.is_input-input in
    let y = c.inputs_below-a in
    omega (arith, answer-fits (job_given a.job.now) p.0 l.k l.a l.w l.at l.planes.zero l.planes.one l.link l.widths l.words (l.invariant p.0 (p.1, p.2, p.3)) c.loop-k-test.true x.result x.ensures y.result y.ensures c.in_ok-count.count (rw c.height_at-here.ensures at c.in_ok-count.ensures.value))

pub offset_bounds-widths-height : goal.offset_bounds-widths-height
offset_bounds-widths-height c =
    let a = c.args in
    let p = c.requires.accepted in
    let l = c.loop-k in
    place_fits (job_given a.job.now) p.0 l.k l.a l.w l.at l.planes.zero l.planes.one l.link l.widths l.words (l.invariant p.0 (p.1, p.2, p.3)) c.loop-k-test.true

pub bounds-widths-height : goal.bounds-widths-height
bounds-widths-height c =
    let a = c.args in
    let p = c.requires.accepted in
    let l = c.loop-k in
    width_fits (job_given a.job.now) p.0 l.k l.a l.w l.at l.planes.zero l.planes.one l.link l.widths l.words (l.invariant p.0 (p.1, p.2, p.3)) c.loop-k-test.true

pub overflow_add-at : goal.overflow_add-at
overflow_add-at c =
    let a = c.args in
    let p = c.requires.accepted in
    let l = c.loop-k in
    count_fits (job_given a.job.now) p.0 l.k l.a l.w l.at l.planes.zero l.planes.one l.link l.widths l.words (l.invariant p.0 (p.1, p.2, p.3)) c.loop-k-test.true

pub loop-k-preserved : goal.loop-k-preserved
loop-k-preserved c =
    let a = c.args in
    let l = c.loop-k in
    let x = c.is_input-input in
    let y = c.inputs_below-a in
    let r = c.in_ok-count in
    λ s b. goes_on_lem (job_given a.job.now) s l.k l.a l.w l.at l.planes.zero l.planes.one l.link l.widths l.words (l.invariant s b) c.loop-k-test.true x.result x.ensures y.result y.ensures r.count (rw c.height_at-here.ensures at r.ensures.value) _ refl _ _ _ _
    (rw c.height_at-here.ensures at r.ensures.zero_after) (rw c.height_at-here.ensures at r.ensures.one_after) (rw c.height_at-here.ensures at r.ensures.words_after) r.ensures.link_len

pub returns : goal.returns
returns c =
    let a = c.args in
    let l = c.loop-k in
    λ s b. end_answer (job_given a.job.now) s l.k l.a l.w l.at l.planes.zero l.planes.one l.link l.widths l.words (l.invariant s b) c.loop-k-test.false
