-- `admissions::put_admission` meets its contract.
-- Assumes nothing.
use native.Mathlib.Omega.{arith}
use borrow.Author.Rules.{rules}
use Rattle.call_text.specs.Words.{bytes_of}
use Rattle.call_text.proofs.CallLaws.{bytes_fit_lem, length-bytes, put_admission, length-admission}
use Rattle.call_text.proofs.admissions.put_admission.Goals as goal

pub overflow_cast-r : goal.overflow_cast-r
overflow_cast-r c =
    let few = (bytes_fit_lem c.args.records.now c.requires.0).1 in
    search rules

pub overflow_cast-q : goal.overflow_cast-q
overflow_cast-q c =
    let few = (bytes_fit_lem c.args.rows.now c.requires.1).1 in
    search rules

pub put_sizes-requires : goal.put_sizes-requires
put_sizes-requires c = omega arith

pub returns : goal.returns
returns c =
    let R = c.args.records.now in
    let Q = c.args.rows.now in
    record {
      value = omega (arith, length-admission (bytes_of R) (bytes_of Q), length-bytes R, length-bytes Q);
      code_after = put_admission R Q c.args.code.now _ _ c.args.at (omega arith) c.put_sizes.ensures c.put_parts.ensures;
    }
