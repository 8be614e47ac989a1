-- `call_text::lines::bank_line` meets its contract.
-- Assumes nothing.
use mathlib.Core.Path.{refl, ◌∙◌}
use Prim.Native.Nat.{◌<◌, ◌≤◌}
use native.Mathlib.Omega.{arith}
use lib.Dec.{leb}
use lib.ListN.{length-set}
use borrow.Author.Tests.{le-leb, lt-leb}
use Rattle.laws.proofs.Cases.{and_left_no, and_join}
use Rattle.call_text.specs.Words.{decimal, is_number}
use Rattle.call_text.proofs.CallLaws.{and_no, some_test, none_test, bad_line_lem, good-line, bank_code, bank_bad, bank-good, put_bank_lem}
use Rattle.call_text.proofs.lines.bank_line.Goals as goal

pub returns-in_err-limit : goal.returns-in_err-limit
returns-in_err-limit c =
    let a = c.args in
    let l = a.rest.now in
    let e = none_test (is_number l) (decimal l) c.in_err-limit.ensures in
    let done = bad_line_lem _ a.code.now a.at (bank_bad l (and_left_no (is_number l) (leb (decimal l) 65535) e)) in
    record { value = c.from_residual.ensures ∙ done.0; code_after = done.1 }

pub returns-then-limit-gt65535 : goal.returns-then-limit-gt65535
returns-then-limit-gt65535 c =
    let a = c.args in
    let l = a.rest.now in
    let (h, is) = some_test (is_number l) (decimal l) c.in_ok-limit.limit c.in_ok-limit.ensures in
    let d : 65535 < decimal l = omega (arith, is, c.if-limit-gt65535.true) in
    let done = bad_line_lem _ a.code.now a.at (bank_bad l (and_no (is_number l) (leb (decimal l) 65535) (lt-leb (decimal l) 65535 d))) in
    record { value = done.0; code_after = done.1 }

pub put_pair-requires : goal.put_pair-requires
put_pair-requires c = simp length-set (omega arith)

pub shape_of-code : goal.shape_of-code
shape_of-code c = c.put_pair.auto.code ∙ length-set c.args.code.now c.args.at 0

pub returns : goal.returns
returns c =
    let a = c.args in
    let l = a.rest.now in
    let n = c.in_ok-limit.limit in
    let (h, is) = some_test (is_number l) (decimal l) n c.in_ok-limit.ensures in
    let d : decimal l ≤ 65535 = omega (arith, is, c.if-limit-gt65535.false) in
    let done = good-line _ (bank_code (decimal l)) a.code.now _ a.at 3 (bank-good l (and_join h (le-leb (decimal l) 65535 d))) refl
    (put_bank_lem a.code.now _ a.at n (decimal l) is (omega arith) c.put_pair.ensures) in
    record { value = done.0; code_after = done.1 }
