-- `admissions::timed_line` meets its contract.
-- Assumes nothing.
use mathlib.Core.Path.{sym, ◌∙◌, ap, ap₂}
use mathlib.Core.Bool.{◌&&◌}
use native.Mathlib.Omega.{arith}
use lib.ListN.{length}
use Rattle.laws.proofs.Cases.{and_split, and_join, and_left_no}
use Rattle.call_text.specs.declared.admissions.Times.{Times}
use Rattle.call_text.specs.Words.{decimal, is_bytes, bytes_of}
use Rattle.call_text.specs.Lines.{Line, timed_admission}
use Rattle.call_text.specs.Timed.{times_in}
use Rattle.call_text.proofs.CallLaws.{and_no, some_test, none_test, call, bad_line_lem, good-line, length-bytes, first_word, other_words, are_times, timed_bad, timed-good, length-timed}
use Rattle.call_text.proofs.LineCases.{timed-size}
use Rattle.call_text.proofs.admissions.timed_line.Goals as goal

pub returns-in_err-times : goal.returns-in_err-times
unfolding times_in
returns-in_err-times c =
    let a = c.args in
    let l = a.rest.now in
    let r = c.cut.result.0.now in
    let q = c.cut-2.result.0.now in
    let t = c.cut-2.result.1.now in
    let eq = c.cut-2.ensures.before ∙ ap first_word c.cut.ensures.after in
    let et = c.cut-2.ensures.after ∙ ap other_words c.cut.ensures.after in
    let absent = none_test (are_times t) (record { period = decimal (first_word t); phase = decimal (other_words t) }) c.in_err-times.ensures in
    let done = bad_line_lem _ a.code.now a.at (timed_bad l r q t c.cut.ensures.before eq et (and_no (is_bytes r && is_bytes q) (are_times t) absent)) in
    record { value = c.from_residual.ensures ∙ done.0; code_after = done.1 }

pub returns-then-not-is_bytes : goal.returns-then-not-is_bytes
returns-then-not-is_bytes c =
    let a = c.args in
    let l = a.rest.now in
    let r = c.cut.result.0.now in
    let q = c.cut-2.result.0.now in
    let t = c.cut-2.result.1.now in
    let eq = c.cut-2.ensures.before ∙ ap first_word c.cut.ensures.after in
    let et = c.cut-2.ensures.after ∙ ap other_words c.cut.ensures.after in
    let test = ap₂ ◌&&◌ c.is_bytes.ensures c.is_bytes-2.ensures in
    let done = bad_line_lem _ a.code.now a.at (timed_bad l r q t c.cut.ensures.before eq et (and_left_no (is_bytes r && is_bytes q) (are_times t) (sym test ∙ c.if-not-is_bytes.true))) in
    record { value = done.0; code_after = done.1 }

pub put_timed-requires : goal.put_timed-requires
unfolding times_in
put_timed-requires c =
    let a = c.args in
    let l = a.rest.now in
    let r = c.cut.result.0.now in
    let q = c.cut-2.result.0.now in
    let t = c.cut-2.result.1.now in
    let eq = c.cut-2.ensures.before ∙ ap first_word c.cut.ensures.after in
    let et = c.cut-2.ensures.after ∙ ap other_words c.cut.ensures.after in
    let test = sym (ap₂ ◌&&◌ c.is_bytes.ensures c.is_bytes-2.ensures) ∙ c.if-not-is_bytes.false in
    let both = and_split (is_bytes r) (is_bytes q) test in
    let times = some_test (are_times t) (record { period = decimal (first_word t); phase = decimal (other_words t) }) c.in_ok-times.times c.in_ok-times.ensures in
    let size = ap (λ (x : Line). length x.code) (timed-good l r q t c.cut.ensures.before eq et (and_join test times.0)) in
    (both.0, both.1, omega (arith, size, timed-size l, length-timed (bytes_of r) (bytes_of q) (decimal (first_word t)) (decimal (other_words t)), length-bytes r, length-bytes q, c.requires))

pub returns : goal.returns
unfolding times_in
returns c =
    let a = c.args in
    let l = a.rest.now in
    let r = c.cut.result.0.now in
    let q = c.cut-2.result.0.now in
    let t = c.cut-2.result.1.now in
    let eq = c.cut-2.ensures.before ∙ ap first_word c.cut.ensures.after in
    let et = c.cut-2.ensures.after ∙ ap other_words c.cut.ensures.after in
    let test = sym (ap₂ ◌&&◌ c.is_bytes.ensures c.is_bytes-2.ensures) ∙ c.if-not-is_bytes.false in
    let times = some_test (are_times t) (record { period = decimal (first_word t); phase = decimal (other_words t) }) c.in_ok-times.times c.in_ok-times.ensures in
    let put = c.put_timed in
    let good = timed-good l r q t c.cut.ensures.before eq et (and_join test times.0)
    ∙ ap (λ (x : Times). call (timed_admission (bytes_of r) (bytes_of q) x.period x.phase)) (sym times.1) in
    let done = good-line _ _ a.code.now _ a.at put.result good put.ensures.value put.ensures.code_after in
    record { value = done.0; code_after = done.1 }
