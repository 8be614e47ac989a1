-- `admissions::older_line` meets its contract.
-- Assumes nothing.
use mathlib.Core.Path.{sym, ◌∙◌, ap, ap₂}
use mathlib.Core.Bool.{◌&&◌}
use Prim.Native.Nat.{◌+◌}
use native.Mathlib.Omega.{arith}
use lib.ListN.{length, length-take, length-drop}
use Rattle.laws.proofs.Cases.{and_split}
use Rattle.call_text.specs.Words.{is_bytes, bytes_of}
use Rattle.call_text.specs.Lines.{space_in, admission}
use Rattle.call_text.proofs.CallLaws.{bad_line_lem, good-line, bytes_fit_lem, older_bad, older_good}
use Rattle.call_text.proofs.admissions.older_line.Goals as goal

pub returns-then-not-is_bytes : goal.returns-then-not-is_bytes
returns-then-not-is_bytes c =
    let a = c.args in
    let l = a.rest.now in
    let test = ap₂ ◌&&◌ c.is_bytes.ensures c.is_bytes-2.ensures in
    let done = bad_line_lem _ a.code.now a.at (older_bad l _ _ c.cut.ensures.before c.cut.ensures.after (sym test ∙ c.if-not-is_bytes.true)) in
    record { value = done.0; code_after = done.1 }

pub put_admission-requires : goal.put_admission-requires
put_admission-requires c =
    let l = c.args.rest.now in
    let r = c.cut.result.0.now in
    let q = c.cut.result.1.now in
    let test = ap₂ ◌&&◌ c.is_bytes.ensures c.is_bytes-2.ensures in
    let both = and_split (is_bytes r) (is_bytes q) (sym test ∙ c.if-not-is_bytes.false) in
    let fr = bytes_fit_lem r both.0 in
    let fq = bytes_fit_lem q both.1 in
    (both.0, both.1, omega (arith, ap length c.cut.ensures.before, ap length c.cut.ensures.after, length-take (space_in l) l, length-drop (space_in l + 1) l, c.requires))

pub returns : goal.returns
returns c =
    let a = c.args in
    let l = a.rest.now in
    let r = c.cut.result.0.now in
    let q = c.cut.result.1.now in
    let test = ap₂ ◌&&◌ c.is_bytes.ensures c.is_bytes-2.ensures in
    let good = older_good l r q c.cut.ensures.before c.cut.ensures.after (sym test ∙ c.if-not-is_bytes.false) in
    let put = c.put_admission in
    let done = good-line _ (admission (bytes_of r) (bytes_of q)) a.code.now _ a.at put.result good put.ensures.value put.ensures.code_after in
    record { value = done.0; code_after = done.1 }
