-- `lines::put_line` meets its contract.
-- Assumes nothing.
use mathlib.Core.Path.{◌∙◌, ap}
use mathlib.Core.List.{List}
use Prim.Native.Nat.{ℕ, ◌+◌}
use native.Mathlib.Omega.{arith}
use lib.ListN.{length, length-set}
use Rattle.block_text.specs.BlockLine.{bytes_text, block_line}
use Rattle.laws.specs.Lists.{written}
use Rattle.call_text.proofs.CallLaws.{mid_written}
use Rattle.block_text.proofs.WriteLaws.{put_line}
use Rattle.block_text.proofs.lines.put_line.Goals as goal

pub put_text-q-requires : goal.put_text-q-requires
put_text-q-requires c =
    let first = c.put_text-r in
    omega (arith, length-set first.new.text (6 + first.result) 32)

pub bounds-text-r-2 : goal.bounds-text-r-2
bounds-text-r-2 c =
    let first = c.put_text-r in
    omega (arith, length-set first.new.text (6 + first.result) 32)

pub shape_of-text : goal.shape_of-text
shape_of-text c =
    let first = c.put_text-r in
    let second = c.put_text-q in
    let t = second.new.text in
    omega (arith, length-set first.new.text (6 + first.result) 32, length-set t (7 + first.result + second.result) 10)

pub returns : goal.returns
unfolding block_line
returns c =
    let first = c.put_text-r in
    let second = c.put_text-q in
    let a = c.args in
    let word = mid_written 0 6 a.text.now c.copy_from_slice.new.self (omega (arith, ap length c.copy_from_slice.ensures.after))
    ∙ ap (λ (s : List ℕ). written a.text.now 0 s) c.copy_from_slice.ensures.after in
    put_line (bytes_text a.records.now) (bytes_text a.rows.now) a.text.now _ first.new.text
    second.new.text first.result second.result first.ensures.value second.ensures.value c.requires word first.ensures.text_after
    second.ensures.text_after
