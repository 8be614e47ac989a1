-- `replay::running::run_calls` meets its contract.
-- Assumes nothing.
use mathlib.Core.Path.{◌≡◌, refl, sym, ◌∙◌, ap, ap₂}
use Prim.Native.Nat.{◌+◌, ◌*◌, ◌≤◌}
use native.Mathlib.Omega.{arith}
use borrow.Author.Rules.{rules}
use lib.ListN.{length}
use Rattle.bank_spec.specs.declared.Bank.{Bank}
use Rattle.bank_spec.specs.declared.Scan.{Scan}
use Rattle.bank_spec.specs.State.{state_of}
use Rattle.replay.specs.Coded.{calls_in}
use Rattle.replay.specs.Replay.{call_answer}
use Rattle.replay.proofs.Traces.{Ran, ran, ran_whole}
use Rattle.replay.proofs.LoopSteps.{rest, size_there, size_none, within, smaller, readable-turn, entry-room, rest-room, run-turn, run_over}
use Rattle.replay.proofs.running.run_calls.Goals as goal

pub loop-n-init : goal.loop-n-init
loop-n-init c =
    let l = c.args.list.now in
    let tr = c.args.trace.now in
    (c.requires.0, omega arith, refl, refl, ap₂ (λ (k : Bank) (s : Scan). ran (state_of k s c.args.rows.now) (calls_in l) 0 tr) c.empty_bank-bank.ensures c.at_rest-scan.ensures)

pub write_entry-requires : goal.write_entry-requires
write_entry-requires c =
    let l = c.loop-n.rest.now in
    let n = c.in-Some.n in
    let s = size_there l c.call_size.ensures c.in-Some.is in
    entry-room l n s.0 s.1 c.loop-n.written (length c.loop-n.trace) c.loop-n.invariant.1

pub slice_bounds-rest-count : goal.slice_bounds-rest-count
slice_bounds-rest-count c =
    let l = c.loop-n.rest.now in
    let n = c.in-Some.n in
    let s = size_there l c.call_size.ensures c.in-Some.is in
    within l n s.0 s.1

pub slice_bounds-rest-start : goal.slice_bounds-rest-start
slice_bounds-rest-start c =
    let l = c.loop-n.rest.now in
    let n = c.in-Some.n in
    let s = size_there l c.call_size.ensures c.in-Some.is in
    let inside : n ≤ length l = within l n s.0 s.1 in
    inside

pub loop-n-smaller : goal.loop-n-smaller
loop-n-smaller c =
    let l = c.loop-n.rest.now in
    let n = c.in-Some.n in
    let s = size_there l c.call_size.ensures c.in-Some.is in
    smaller l n s.0 s.1

pub loop-n-preserved : goal.loop-n-preserved
loop-n-preserved c =
    let l = c.loop-n.rest.now in
    let n = c.in-Some.n in
    let s = size_there l c.call_size.ensures c.in-Some.is in
    let t = c.loop-n in
    let r = c.call_first-answer in
    let i = t.invariant in
    let room = rest-room l n s.0 s.1 t.written (length t.trace) i.1 in
    let same : length c.write_entry.new.trace ≡ length t.trace = search rules in
    let kept : length r.new.rows ≡ length t.rows = search rules in
    let fits : t.written + 68 + 68 * length (calls_in (rest l n)) ≤ length c.write_entry.new.trace = omega (arith, room, same) in
    -- a call leaves 64 outputs
    let all = c.write_entry.ensures.all_there in (
      sym (readable-turn l n s.0 s.1) ∙ i.0,
      fits,
      kept ∙ i.2,
      same ∙ i.3,
      sym
          (run-turn l n s.0 s.1 t.bank t.scan t.rows (call_answer r.result) r.new.bank r.new.scan r.new.rows r.ensures all t.written t.trace _ c.write_entry.ensures.entry)
          ∙ i.4,
    )

pub returns : goal.returns
returns c =
    let l = c.loop-n.rest.now in
    let t = c.loop-n in
    let z = size_none l c.call_size.ensures c.in_default.is in
    let e = sym (run_over l z (state_of t.bank t.scan t.rows) t.written t.trace) ∙ t.invariant.4
    ∙ ran_whole c.args.rows.now (calls_in c.args.list.now) c.args.trace.now c.requires.1 in
    record { rows_after = ap (λ (x : Ran). x.rows) e; trace_after = ap (λ (x : Ran). x.trace) e }
