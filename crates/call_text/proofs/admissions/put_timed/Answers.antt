-- `admissions::put_timed` meets its contract.
-- Assumes nothing.
use mathlib.Core.Path.{◌∙◌}
use native.Mathlib.Omega.{arith}
use borrow.Author.Rules.{rules}
use lib.ListN.{length-set}
use Rattle.call_text.specs.Words.{bytes_of}
use Rattle.call_text.proofs.CallLaws.{bytes_fit_lem, length-bytes, put_timed, length-timed}
use Rattle.call_text.proofs.admissions.put_timed.Goals as goal

pub overflow_cast-r : goal.overflow_cast-r
overflow_cast-r c =
    let few = (bytes_fit_lem c.args.records.now c.requires.0).1 in
    search rules

pub overflow_cast-q : goal.overflow_cast-q
overflow_cast-q c =
    let few = (bytes_fit_lem c.args.rows.now c.requires.1).1 in
    search rules

pub put_sizes-requires : goal.put_sizes-requires
put_sizes-requires c = omega arith

pub bounds-code-at-2 : goal.bounds-code-at-2
bounds-code-at-2 c =
    simp length-set (omega arith)

pub put_parts-requires : goal.put_parts-requires
put_parts-requires c =
    (c.requires.0, c.requires.1, simp length-set (omega arith))

pub shape_of-code : goal.shape_of-code
shape_of-code c = c.put_parts.auto.code ∙ simp length-set c.put_sizes.auto.code

pub returns : goal.returns
returns c =
    let R = c.args.records.now in
    let Q = c.args.rows.now in
    record {
      value = omega (arith, length-timed (bytes_of R) (bytes_of Q) c.args.times.period c.args.times.phase, length-bytes R, length-bytes Q);
      code_after = put_timed R Q c.args.code.now _ _ c.args.at c.args.times.period c.args.times.phase (omega arith) c.put_sizes.ensures c.put_parts.ensures;
    }
