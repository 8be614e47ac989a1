-- `call_text::lines::put_words` meets its contract.
-- Assumes nothing.
use mathlib.Core.Path.{◌≡◌, sym, ◌∙◌, ap}
use native.Mathlib.Omega.{arith}
use lib.ListN.{length}
use Rattle.laws.proofs.Puts.{puts_at-none, puts_at-next, length-puts_at}
use Rattle.laws.proofs.Tests.{every_at}
use Rattle.call_text.specs.Words.{hex_byte}
use Rattle.call_text.specs.Lines.{is_word_byte}
use Rattle.call_text.proofs.CallLaws.{word_byte, word_hex}
use Rattle.call_text.proofs.lines.put_words.Goals as goal

pub loop-i-init : goal.loop-i-init
loop-i-init c =
    let a = c.args in
    sym (puts_at-none (word_byte a.rest.now) a.at a.code.now)

pub hex_byte-requires : goal.hex_byte-requires
hex_byte-requires c =
    let l = c.loop-i in
    let a = c.args in
    let h = word_hex a.rest.now l.i c.word_place.result c.word_place.ensures.0 (every_at (is_word_byte a.rest.now) 16 c.requires.0 l.i (omega arith)) in
    (omega arith, h.0, h.1)

pub bounds-code-at : goal.bounds-code-at
bounds-code-at c =
    let l = c.loop-i in
    let long : length l.code ≡ length c.args.code.now = rw length-puts_at at (ap length l.invariant) in
    omega arith

pub loop-i-preserved : goal.loop-i-preserved
loop-i-preserved c =
    let l = c.loop-i in
    let a = c.args in
    puts_at-next (word_byte a.rest.now) a.at l.i a.code.now l.code _ l.invariant (c.hex_byte.ensures ∙ ap (hex_byte a.rest.now) c.word_place.ensures.0)

pub shape_of-code : goal.shape_of-code
shape_of-code c = rw length-puts_at at (ap length c.loop-i.invariant)

pub returns : goal.returns
returns c =
    let l = c.loop-i in
    let e : l.i ≡ 16 = omega arith in
    rw e at l.invariant
