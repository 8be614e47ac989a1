-- `replay::replay` meets its contract.
-- Assumes nothing.
use mathlib.Core.Path.{◌≡◌, ◌∙◌}
use borrow.Author.Rules.{rules}
use Rattle.refusals.specs.Numbers.{number, answered}
use Rattle.replay.proofs.Refusals.{counted, not-counted, replay_12, replay_11, trace-fits, replay_0}
use Rattle.replay.proofs.replay.Goals as goal

pub returns-in_err-calls : goal.returns-in_err-calls
returns-in_err-calls c =
    let a = c.args in
    let r = c.in_err-calls.field-0.0 in
    let same : answered c.from_residual.result ≡ number r = search rules in
    let none = not-counted a.list.now c.count_calls.ensures c.ok_or.ensures.value r c.in_err-calls.was in
    replay_12 a.list.now a.rows.now a.trace.now none.0 (same ∙ none.1)

pub returns-then-trace-calls : goal.returns-then-trace-calls
returns-then-trace-calls c =
    let a = c.args in
    let all = counted a.list.now c.count_calls.ensures c.ok_or.ensures.value c.in_ok-calls.was in
    replay_11 a.list.now a.rows.now a.trace.now all.0 _ all.1 c.if-trace-calls.true

pub run_calls-requires : goal.run_calls-requires
run_calls-requires c =
    let a = c.args in
    let all = counted a.list.now c.count_calls.ensures c.ok_or.ensures.value c.in_ok-calls.was in
    (all.0, trace-fits a.list.now a.rows.now a.trace.now all.0 _ all.1 c.if-trace-calls.false)

pub returns : goal.returns
returns c =
    let a = c.args in
    let r = c.run_calls.ensures in
    let all = counted a.list.now c.count_calls.ensures c.ok_or.ensures.value c.in_ok-calls.was in
    replay_0 a.list.now a.rows.now a.trace.now all.0 _ all.1 c.if-trace-calls.false _ _ r.rows_after r.trace_after
