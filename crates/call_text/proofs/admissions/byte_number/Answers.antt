-- `admissions::byte_number` meets its contract.
-- Assumes nothing.
use mathlib.Core.Path.{sym, ◌∙◌, ap}
use mathlib.Core.Bool.{not}
use borrow.Author.Rules.{rules}
use lib.Dec.{ltb}
use lib.ListN.{length}
use borrow.Author.Tests.{ltb-false}
use Prim.Native.Nat.{◌≤◌}
use Rattle.std.specs.Prelude.{Some, None}
use Rattle.laws.proofs.Cases.{cond_yes, cond_no, or_split}
use Rattle.call_text.specs.Words.{decimal, is_number}
use Rattle.call_text.specs.Lines.{is_byte_number}
use Rattle.call_text.proofs.CallLaws.{some_test, none_test, byte_test, byte_none}
use Rattle.call_text.proofs.admissions.byte_number.Goals as goal

pub returns-in_err-n : goal.returns-in_err-n
returns-in_err-n c =
    let l = c.args.text.now in
    c.from_residual.ensures ∙ sym (cond_no (is_byte_number l) _ None (byte_none l (none_test (is_number l) (decimal l) c.in_err-n.ensures)))

pub returns-then-text-n : goal.returns-then-text-n
returns-then-text-n c =
    let l = c.args.text.now in
    let (h, is) = some_test (is_number l) (decimal l) c.in_ok-n.n c.in_ok-n.ensures in
    sym (cond_no (is_byte_number l) _ None (byte_test l c.in_ok-n.n is h ∙ ap not c.if-text-n.true))

pub overflow_cast-result : goal.overflow_cast-result
overflow_cast-result c =
    let few : c.in_ok-n.n ≤ 255 = ltb-false 255 c.in_ok-n.n (or_split (ltb 3 (length c.args.text.now)) (ltb 255 c.in_ok-n.n) c.if-text-n.false).1 in
    search rules

pub returns : goal.returns
returns c =
    let l = c.args.text.now in
    let (h, is) = some_test (is_number l) (decimal l) c.in_ok-n.n c.in_ok-n.ensures in
    ap Some is ∙ sym (cond_yes (is_byte_number l) (Some (decimal l)) None (byte_test l c.in_ok-n.n is h ∙ ap not c.if-text-n.false))
