-- `call_text::lines::memory_line` meets its contract.
-- Assumes nothing.
use mathlib.Core.Path.{◌≡◌, sym, ◌∙◌, ap}
use mathlib.Core.Bool.{true, false, ◌&&◌}
use Prim.Native.Nat.{◌<◌, ◌≤◌}
use native.Mathlib.Omega.{arith}
use lib.Dec.{leb}
use lib.ListN.{drop}
use borrow.Author.Tests.{le-leb, lt-leb}
use Rattle.laws.proofs.Cases.{and_left_no, and_join}
use Rattle.call_text.specs.Words.{begins, decimal, is_number}
use Rattle.call_text.specs.Lines.{memory_word}
use Rattle.call_text.specs.Given.{memory_given}
use Rattle.call_text.proofs.CallLaws.{and_no, some_test, none_test}
use Rattle.call_text.proofs.LineCases.{memory_bad, memory_good}
use Rattle.call_text.proofs.lines.memory_line.Goals as goal

pub returns-in_err-after-clause-value : goal.returns-in_err-after-clause-value
returns-in_err-after-clause-value c =
    let l = c.args.line.now in
    let e : begins memory_word l ≡ false = c.in_err-after.ensures in
    ap memory_given c.from_residual.ensures
    ∙ memory_bad l (and_left_no (begins memory_word l && is_number (drop 7 l)) (leb (decimal (drop 7 l)) 65536) (and_left_no (begins memory_word l) (is_number (drop 7 l)) e))

pub returns-in_err-n-clause-value : goal.returns-in_err-n-clause-value
returns-in_err-n-clause-value c =
    let l = c.args.line.now in
    let (begun, is, long) = c.in_ok-after.ensures in
    let e : is_number (drop 7 l) ≡ false = ap is_number (sym is) ∙ none_test (is_number c.in_ok-after.field-0.now) (decimal c.in_ok-after.field-0.now) c.in_err-n.ensures in
    ap memory_given c.from_residual-in_err-n.ensures
    ∙ memory_bad l (and_left_no (begins memory_word l && is_number (drop 7 l)) (leb (decimal (drop 7 l)) 65536) (and_no (begins memory_word l) (is_number (drop 7 l)) e))

pub returns-then-n-gt65536-clause-value : goal.returns-then-n-gt65536-clause-value
returns-then-n-gt65536-clause-value c =
    let l = c.args.line.now in
    let (begun, is, long) = c.in_ok-after.ensures in
    let (h, d) = some_test (is_number c.in_ok-after.field-0.now) (decimal c.in_ok-after.field-0.now) c.in_ok-n.n c.in_ok-n.ensures in
    let many : 65536 < decimal (drop 7 l) = omega (arith, d, ap decimal is, c.if-n-gt65536.true) in
    memory_bad l (and_no (begins memory_word l && is_number (drop 7 l)) (leb (decimal (drop 7 l)) 65536) (lt-leb (decimal (drop 7 l)) 65536 many))

pub returns-clause-value : goal.returns-clause-value
returns-clause-value c =
    let l = c.args.line.now in
    let (begun, is, long) = c.in_ok-after.ensures in
    let (h, d) = some_test (is_number c.in_ok-after.field-0.now) (decimal c.in_ok-after.field-0.now) c.in_ok-n.n c.in_ok-n.ensures in
    let i : is_number (drop 7 l) ≡ true = ap is_number (sym is) ∙ h in
    let v = d ∙ ap decimal is in
    let few : decimal (drop 7 l) ≤ 65536 = omega (arith, v, c.if-n-gt65536.false) in
    memory_good l c.in_ok-n.n v (and_join (and_join begun i) (le-leb (decimal (drop 7 l)) 65536 few))
