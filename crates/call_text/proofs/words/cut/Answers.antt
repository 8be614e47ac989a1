-- `words::cut` meets its contract.
-- Assumes nothing.
use mathlib.Core.Path.{◌≡◌, sym, ◌∙◌, ap}
use mathlib.Core.List.{List}
use Prim.Native.Nat.{ℕ, ◌+◌, ◌≤◌}
use native.Mathlib.Omega.{arith}
use lib.ListN.{length, take, drop, length-drop, drop_of_length-le}
use lib.Seq.{drop-drop}
use borrow.Author.Tests.{eqb-true}
use Rattle.call_text.specs.Lines.{space_in}
use Rattle.call_text.proofs.CallLaws.{rest_all, space_found}
use Rattle.call_text.proofs.words.cut.Goals as goal

pub returns-then-is_empty-clause-before : goal.returns-then-is_empty-clause-before
returns-then-is_empty-clause-before c =
    let l = c.args.text.now in
    c.split_at.ensures.front ∙ ap (λ (k : ℕ). take k l) (space_found l c.byte_in.result c.byte_in.ensures.0)

pub returns-then-is_empty-clause-after : goal.returns-then-is_empty-clause-after
returns-then-is_empty-clause-after c =
    let l = c.args.text.now in
    let p = c.byte_in.result in
    let at = space_found l p c.byte_in.ensures.0 in
    let none : length c.split_at.result.1.now ≡ 0 = eqb-true _ 0 (sym c.is_empty.ensures ∙ c.if-is_empty.true) in
    let last : length l ≤ p = omega (arith, length-drop p l, ap length c.split_at.ensures.back, none) in
    c.split_at.ensures.back ∙ drop_of_length-le l {i = p} last ∙ sym (drop_of_length-le l {i = space_in l + 1} (omega (arith, at)))

pub returns-clause-before : goal.returns-clause-before
returns-clause-before c =
    let l = c.args.text.now in
    c.split_at.ensures.front ∙ ap (λ (k : ℕ). take k l) (space_found l c.byte_in.result c.byte_in.ensures.0)

pub returns-clause-after : goal.returns-clause-after
returns-clause-after c =
    let l = c.args.text.now in
    let p = c.byte_in.result in
    rest_all 1 c.split_at.result.1.now ∙ ap (λ (s : List ℕ). drop 1 s) c.split_at.ensures.back ∙ drop-drop 1 p l
    ∙ ap (λ (k : ℕ). drop (k + 1) l) (space_found l p c.byte_in.ensures.0)
