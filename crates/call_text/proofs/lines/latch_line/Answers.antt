-- `call_text::lines::latch_line` meets its contract.
-- Assumes nothing.
use mathlib.Core.Path.{refl, sym, ◌∙◌, ap₂}
use mathlib.Core.Bool.{Bool, ◌&&◌}
use native.Mathlib.Omega.{arith}
use lib.Dec.{eqb}
use lib.ListN.{length, length-set}
use Rattle.laws.specs.Tests.{every}
use Rattle.laws.proofs.Cases.{and_split}
use Rattle.call_text.specs.Lines.{is_word_byte}
use Rattle.call_text.proofs.CallLaws.{bad_line_lem, good-line, is_space, latch_code, latch_bad, latch-good, latch-length, put_latch}
use Rattle.call_text.proofs.lines.latch_line.Goals as goal

pub returns-then-not-spaced-all_word_bytes : goal.returns-then-not-spaced-all_word_bytes
returns-then-not-spaced-all_word_bytes c =
    let a = c.args in
    let l = a.rest.now in
    let e = ap₂ (λ (s w : Bool). eqb (length l) 40 && s && w) c.all_spaces.ensures c.all_word_bytes.ensures in
    let done = bad_line_lem _ a.code.now a.at (latch_bad l (sym e ∙ c.if-not-spaced-all_word_bytes.true)) in
    record { value = done.0; code_after = done.1 }

pub put_words-requires : goal.put_words-requires
put_words-requires c =
    let a = c.args in
    let l = a.rest.now in
    let e = ap₂ (λ (s w : Bool). eqb (length l) 40 && s && w) c.all_spaces.ensures c.all_word_bytes.ensures in
    let good = sym e ∙ c.if-not-spaced-all_word_bytes.false in
    let long = latch-length l good in
    ((and_split (eqb (length l) 40 && every 8 (is_space l)) (every 16 (is_word_byte l)) good).1, simp length-set (omega arith))

pub shape_of-code : goal.shape_of-code
shape_of-code c = c.put_words.auto.code ∙ length-set c.args.code.now c.args.at 2

pub returns : goal.returns
returns c =
    let a = c.args in
    let l = a.rest.now in
    let e = ap₂ (λ (s w : Bool). eqb (length l) 40 && s && w) c.all_spaces.ensures c.all_word_bytes.ensures in
    let good = sym e ∙ c.if-not-spaced-all_word_bytes.false in
    let long = latch-length l good in
    let done = good-line _ (latch_code l) a.code.now _ a.at 17 (latch-good l good) refl (put_latch l a.code.now _ a.at (omega arith) c.put_words.ensures) in
    record { value = done.0; code_after = done.1 }
