-- `call_text::unread::wanted_first` meets its contract.
-- Assumes nothing.
use mathlib.Core.Path.{◌≡◌, refl, sym, ◌∙◌}
use mathlib.Core.Bool.{true, false}
use Rattle.call_text.specs.Words.{begins}
use Rattle.call_text.specs.Lines.{latch_word, step_word}
use Rattle.call_text.specs.Wanted.{bank_name, admit_name}
use Rattle.call_text.proofs.Scans.{starts_word}
use Rattle.call_text.proofs.UnreadLaws.{wanted-bank, wanted-admit, wanted-latch, wanted-step, wanted-any}
use Rattle.call_text.proofs.unread.wanted_first.Goals as goal

pub returns-then-starts_with : goal.returns-then-starts_with
returns-then-starts_with c =
    let l = c.args.text.now in
    let h0 : begins bank_name l ≡ true = sym (starts_word bank_name l refl _ c.starts_with.ensures.value) ∙ c.if-starts_with.true in
    wanted-bank l h0

pub returns-then-starts_with-2 : goal.returns-then-starts_with-2
returns-then-starts_with-2 c =
    let l = c.args.text.now in
    let h0 : begins bank_name l ≡ false = sym (starts_word bank_name l refl _ c.starts_with.ensures.value) ∙ c.if-starts_with.false in
    let h1 : begins admit_name l ≡ true = sym (starts_word admit_name l refl _ c.starts_with-2.ensures.value) ∙ c.if-starts_with-2.true in
    wanted-admit l h0 h1

pub returns-then-starts_with-3 : goal.returns-then-starts_with-3
returns-then-starts_with-3 c =
    let l = c.args.text.now in
    let h0 : begins bank_name l ≡ false = sym (starts_word bank_name l refl _ c.starts_with.ensures.value) ∙ c.if-starts_with.false in
    let h1 : begins admit_name l ≡ false = sym (starts_word admit_name l refl _ c.starts_with-2.ensures.value) ∙ c.if-starts_with-2.false in
    let h2 : begins latch_word l ≡ true = sym (starts_word latch_word l refl _ c.starts_with-3.ensures.value) ∙ c.if-starts_with-3.true in
    wanted-latch l h0 h1 h2

pub returns-then-starts_with-4 : goal.returns-then-starts_with-4
returns-then-starts_with-4 c =
    let l = c.args.text.now in
    let h0 : begins bank_name l ≡ false = sym (starts_word bank_name l refl _ c.starts_with.ensures.value) ∙ c.if-starts_with.false in
    let h1 : begins admit_name l ≡ false = sym (starts_word admit_name l refl _ c.starts_with-2.ensures.value) ∙ c.if-starts_with-2.false in
    let h2 : begins latch_word l ≡ false = sym (starts_word latch_word l refl _ c.starts_with-3.ensures.value) ∙ c.if-starts_with-3.false in
    let h3 : begins step_word l ≡ true = sym (starts_word step_word l refl _ c.starts_with-4.ensures.value) ∙ c.if-starts_with-4.true in
    wanted-step l h0 h1 h2 h3

pub returns : goal.returns
returns c =
    let l = c.args.text.now in
    let h0 : begins bank_name l ≡ false = sym (starts_word bank_name l refl _ c.starts_with.ensures.value) ∙ c.if-starts_with.false in
    let h1 : begins admit_name l ≡ false = sym (starts_word admit_name l refl _ c.starts_with-2.ensures.value) ∙ c.if-starts_with-2.false in
    let h2 : begins latch_word l ≡ false = sym (starts_word latch_word l refl _ c.starts_with-3.ensures.value) ∙ c.if-starts_with-3.false in
    let h3 : begins step_word l ≡ false = sym (starts_word step_word l refl _ c.starts_with-4.ensures.value) ∙ c.if-starts_with-4.false in
    wanted-any l h0 h1 h2 h3
