-- `call_text::lines::read_lines` meets its contract.
-- Assumes nothing.
use mathlib.Core.Path.{sym, ◌∙◌, ap}
use Prim.Native.Nat.{◌+◌, ◌-◌, ◌≤◌}
use native.Mathlib.Omega.{arith}
use lib.ListN.{length, take, drop, length-take}
use Rattle.std.specs.Prelude.{is_some}
use Rattle.call_text.specs.Lines.{line_in}
use Rattle.call_text.proofs.CallLaws.{rest-long, some_test, size_there}
use Rattle.call_text.proofs.LineLaws.{end_found, line-cut, reading_starts, reading_done, reading-ends, reading_more}
use Rattle.call_text.proofs.lines.read_lines.Goals as goal

pub loop-at-init : goal.loop-at-init
loop-at-init c =
    let a = c.args in
    reading_starts a.text.now a.code.now a.first

pub overflow_add-end : goal.overflow_add-end
overflow_add-end c =
    let long = rest-long c.loop-at.at c.args.text.now in
    omega (arith, c.byte_in.ensures.1)

pub slice_bounds-read_line-end : goal.slice_bounds-read_line-end
slice_bounds-read_line-end c =
    let long = rest-long c.loop-at.at c.args.text.now in
    omega (arith, c.byte_in.ensures.1, c.loop-at-test.true)

pub read_line-requires : goal.read_line-requires
read_line-requires c =
    let l = c.loop-at in
    let text = c.args.text.now in
    let n = c.byte_in.result in
    let long = rest-long l.at text in
    let h : l.size + length (take (l.at + n - l.at) (drop l.at text)) ≤ length l.code = omega (arith, length-take (l.at + n - l.at) (drop l.at text), c.byte_in.ensures.1, c.loop-at-test.true, l.invariant.short, l.invariant.long, c.requires.0) in
    h

pub returns-in_default : goal.returns-in_default
returns-in_default c =
    let a = c.args in
    let l = c.loop-at in
    let text = a.text.now in
    let n = c.byte_in.result in
    let line = take (l.at + n - l.at) (drop l.at text) in
    let read = c.read_line.ensures in
    let (s, b, w) = reading-ends text a.code.now a.first l.at l.size l.number l.code l.invariant n line c.loop-at-test.true (end_found text l.at n c.byte_in.ensures.0) (line-cut text l.at n) (sym (size_there (line_in line)) ∙ ap is_some (sym read.value) ∙ ap is_some c.in_default.is) in
    record { size_value = (s, b); code_after = read.code_after ∙ w; bad_from = l.invariant.from }

pub overflow_add-size : goal.overflow_add-size
overflow_add-size c =
    let l = c.loop-at in
    let text = c.args.text.now in
    let n = c.byte_in.result in
    let long = rest-long l.at text in
    omega (arith, length-take (l.at + n - l.at) (drop l.at text), c.byte_in.ensures.1, c.loop-at-test.true, l.invariant.short, c.in-Some.ensures.within)

pub overflow_add-number : goal.overflow_add-number
overflow_add-number c = omega (arith, c.loop-at.invariant.few, c.loop-at-test.true, c.requires.1)

pub overflow_add-at : goal.overflow_add-at
overflow_add-at c =
    let long = rest-long c.loop-at.at c.args.text.now in
    omega (arith, c.byte_in.ensures.1, c.loop-at-test.true)

pub loop-at-smaller : goal.loop-at-smaller
loop-at-smaller c =
    let long = rest-long c.loop-at.at c.args.text.now in
    omega (arith, c.byte_in.ensures.1, c.loop-at-test.true)

pub loop-at-preserved : goal.loop-at-preserved
loop-at-preserved c =
    let a = c.args in
    let l = c.loop-at in
    let text = a.text.now in
    let n = c.byte_in.result in
    let line = take (l.at + n - l.at) (drop l.at text) in
    let read = c.read_line.ensures in
    let good = some_test (line_in line).good (length (line_in line).code) c.in-Some.read c.in-Some.ensures.value in
    reading_more text a.code.now a.first l.at l.size l.number l.code l.invariant n line c.loop-at-test.true (end_found text l.at n c.byte_in.ensures.0) (line-cut text l.at n) _ _ c.requires.0 good.0 good.1 read.code_after

pub shape_of-code : goal.shape_of-code
shape_of-code c = c.loop-at.invariant.long

pub returns : goal.returns
returns c =
    let a = c.args in
    let l = c.loop-at in
    let (s, b, w) = reading_done a.text.now a.code.now a.first l.at l.size l.number l.code l.invariant c.loop-at-test.false in
    record { size_value = (s, b); code_after = w; bad_from = tt }
