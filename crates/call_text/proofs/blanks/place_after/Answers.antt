-- `blanks::place_after` meets its contract.
-- Assumes nothing.
use mathlib.Core.Path.{sym, ◌∙◌}
use borrow.Author.Tests.{eq-eqb, ne_eqb}
use Rattle.call_text.proofs.TidyLaws.{after_blank, after-word, after_line_lem, in_word}
use Rattle.call_text.proofs.blanks.place_after.Goals as goal

pub returns-then-s-eq0 : goal.returns-then-s-eq0
returns-then-s-eq0 c =
    let a = c.args in
    after_blank a.s a.c (sym c.is_blank.ensures ∙ c.if-is_blank.true) (eq-eqb a.s 0 c.if-s-eq0.true)

pub returns-then-is_blank : goal.returns-then-is_blank
returns-then-is_blank c =
    let a = c.args in
    after-word a.s a.c (sym c.is_blank.ensures ∙ c.if-is_blank.true) (ne_eqb a.s 0 c.if-s-eq0.false)

pub returns-then-c-eq10 : goal.returns-then-c-eq10
returns-then-c-eq10 c =
    let a = c.args in
    after_line_lem a.s a.c (sym c.is_blank.ensures ∙ c.if-is_blank.false) (eq-eqb a.c 10 c.if-c-eq10.true)

pub returns : goal.returns
returns c =
    let a = c.args in
    in_word a.s a.c (sym c.is_blank.ensures ∙ c.if-is_blank.false) (ne_eqb a.c 10 c.if-c-eq10.false)
