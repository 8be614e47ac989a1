-- `admissions::admit_line` meets its contract.
-- Assumes nothing.
use mathlib.Core.Path.{sym, ◌∙◌, ap}
use mathlib.Core.List.{List}
use Prim.Native.Nat.{ℕ}
use Rattle.std.specs.Prelude.{is_some}
use Rattle.laws.specs.Lists.{written}
use Rattle.laws.proofs.Filled.{written_none}
use Rattle.call_text.specs.Lines.{older_line, timed_line, admit_line}
use Rattle.call_text.proofs.CallLaws.{same_line_lem, size_there, older_empty, admit_older, admit-timed}
use Rattle.call_text.proofs.admissions.admit_line.Goals as goal

pub returns-then-is_some : goal.returns-then-is_some
returns-then-is_some c =
    let a = c.args in
    let l = a.rest.now in
    let older = c.older_line-older.ensures in
    let good = sym (size_there (older_line l)) ∙ ap is_some (sym older.value) ∙ sym c.is_some.ensures ∙ c.if-is_some.true in
    let done = same_line_lem (admit_line l) (older_line l) _ a.code.now _ a.at (admit_older l good) (older.value, older.code_after) in
    record { value = done.0; code_after = done.1 }

pub returns : goal.returns
returns c =
    let a = c.args in
    let l = a.rest.now in
    let older = c.older_line-older.ensures in
    let timed = c.timed_line.ensures in
    let bad = sym (size_there (older_line l)) ∙ ap is_some (sym older.value) ∙ sym c.is_some.ensures ∙ c.if-is_some.false in
    let kept = older.code_after ∙ ap (λ (s : List ℕ). written a.code.now a.at s) (older_empty l bad) ∙ written_none a.code.now a.at in
    let done = same_line_lem (admit_line l) (timed_line l) _ a.code.now _ a.at (admit-timed l bad)
    (timed.value, timed.code_after ∙ ap (λ (s : List ℕ). written s a.at (timed_line l).code) kept) in
    record { value = done.0; code_after = done.1 }
