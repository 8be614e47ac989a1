-- `replay::coded::count_calls` meets its contract.
-- Assumes nothing.
use mathlib.Core.Path.{◌≡◌, refl, sym, ◌∙◌, ap}
use mathlib.Core.Bool.{true, false}
use Prim.Native.Nat.{◌+◌, ◌≤◌}
use native.Mathlib.Omega.{arith}
use lib.ListN.{length}
use Rattle.std.specs.Prelude.{Some}
use Rattle.replay.specs.Coded.{calls_in, readable}
use Rattle.replay.proofs.Reading.{calls_few, calls_none, readable-none}
use Rattle.replay.proofs.LoopSteps.{rest, size_there, size_none, within, smaller, calls_turn, readable-turn}
use Rattle.replay.proofs.coded.count_calls.Goals as goal

pub loop-n-init : goal.loop-n-init
loop-n-init c = (omega arith, refl)

pub overflow_add-calls : goal.overflow_add-calls
overflow_add-calls c =
    let l = c.loop-n.rest.now in
    let n = c.in-Some.n in
    let s = size_there l c.call_size.ensures c.in-Some.is in
    let few = ap length (calls_turn l n s.0 s.1) in
    let all = calls_few c.args.list.now in
    omega (arith, c.well_formed, c.loop-n.invariant.0)

pub slice_bounds-rest-count : goal.slice_bounds-rest-count
slice_bounds-rest-count c =
    let l = c.loop-n.rest.now in
    let n = c.in-Some.n in
    let s = size_there l c.call_size.ensures c.in-Some.is in
    within l n s.0 s.1

pub slice_bounds-rest-start : goal.slice_bounds-rest-start
slice_bounds-rest-start c =
    let l = c.loop-n.rest.now in
    let n = c.in-Some.n in
    let s = size_there l c.call_size.ensures c.in-Some.is in
    let inside : n ≤ length l = within l n s.0 s.1 in
    inside

pub loop-n-smaller : goal.loop-n-smaller
loop-n-smaller c =
    let l = c.loop-n.rest.now in
    let n = c.in-Some.n in
    let s = size_there l c.call_size.ensures c.in-Some.is in
    smaller l n s.0 s.1

pub loop-n-preserved : goal.loop-n-preserved
loop-n-preserved c =
    let l = c.loop-n.rest.now in
    let n = c.in-Some.n in
    let s = size_there l c.call_size.ensures c.in-Some.is in
    let few = ap length (calls_turn l n s.0 s.1) in
    let sum : c.loop-n.calls + 1 + length (calls_in (rest l n)) ≡ length (calls_in c.args.list.now) = omega (arith, few, c.loop-n.invariant.0) in
    (sum, sym (readable-turn l n s.0 s.1) ∙ c.loop-n.invariant.1)

pub returns-then-is_empty : goal.returns-then-is_empty
returns-then-is_empty c =
    let l = c.loop-n.rest.now in
    let i = c.loop-n.invariant in
    let z = size_none l c.call_size.ensures c.in_default.is in
    let whole : readable c.args.list.now ≡ true = sym i.1 ∙ readable-none l z ∙ sym c.is_empty.ensures ∙ c.if-is_empty.true in
    let n : c.loop-n.calls ≡ length (calls_in c.args.list.now) = omega (arith, i.0, ap length (calls_none l z)) in
    rw whole (ap Some n)

pub returns : goal.returns
returns c =
    let l = c.loop-n.rest.now in
    let z = size_none l c.call_size.ensures c.in_default.is in
    let broken : readable c.args.list.now ≡ false = sym c.loop-n.invariant.1 ∙ readable-none l z ∙ sym c.is_empty.ensures ∙ c.if-is_empty.false in
    rw broken
