-- `blanks::tidy_whole` meets its contract.
-- Assumes nothing.
use native.Mathlib.Omega.{arith}
use lib.ListN.{get_or}
use Rattle.call_text.proofs.TidyLaws.{tidy_starts, tidy_done, tidy_room, tidy_more, byte-size}
use Rattle.call_text.proofs.blanks.tidy_whole.Goals as goal

pub loop-at-init : goal.loop-at-init
loop-at-init c =
    let a = c.args in
    tidy_starts a.text.now a.lent.now

pub put_tidied-size-requires : goal.put_tidied-size-requires
put_tidied-size-requires c =
    let l = c.loop-at in
    tidy_room c.args.text.now c.args.lent.now l.at l.size l.s l.lent l.invariant c.loop-at-test.true c.requires

pub overflow_add-size : goal.overflow_add-size
overflow_add-size c =
    let l = c.loop-at in
    let text = c.args.text.now in
    omega (arith, byte-size l.s (get_or text l.at 0), l.invariant.short, c.loop-at-test.true, c.put_tidied-size.ensures.value)

pub loop-at-preserved : goal.loop-at-preserved
loop-at-preserved c =
    let l = c.loop-at in
    tidy_more c.args.text.now c.args.lent.now l.at l.size l.s l.lent l.invariant c.loop-at-test.true c.requires _ _ _ c.put_tidied-size.ensures.value c.place_after-s.ensures c.put_tidied-size.ensures.lent_after

pub shape_of-lent : goal.shape_of-lent
shape_of-lent c = c.loop-at.invariant.long

pub returns : goal.returns
returns c =
    let l = c.loop-at in
    let a = c.args in
    let done = tidy_done a.text.now a.lent.now l.at l.size l.s l.lent l.invariant c.loop-at-test.false in
    record { value = done.0; lent_after = done.1 }
