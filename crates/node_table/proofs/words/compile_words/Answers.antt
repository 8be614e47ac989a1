-- `node_table::words::compile_words` meets its contract.
-- Assumes nothing.
use mathlib.Core.Path.{sym}
use native.Mathlib.Omega.{arith}
use lib.Seq.{length-take-le}
use Rattle.sheet_spec.specs.Given.{job_given}
use Rattle.cutting.specs.Outcome.{compilation_given, outcome}
use Rattle.node_table.specs.Nodes.{words_for}
use Rattle.node_table.proofs.words.LentWords.{front_outcome}
use Rattle.node_table.proofs.words.compile_words.Goals as goal

pub slice_bounds-compile-end-2 : goal.slice_bounds-compile-end-2
slice_bounds-compile-end-2 c = sym (length-take-le _ _ (omega arith))

pub returns : goal.returns
returns c =
    let a = c.args in
    let size = c.words_for-size in
    let call = c.compile in
    front_outcome (λ l. outcome l a.records.now a.rows.now (job_given a.job.now) a.sheet.now)
    (compilation_given call.result) (words_for a.lent) size.result call.new.nodes a.words.now call.new.records
    call.new.rows (omega arith) (omega (arith, length-take-le size.result a.words.now (omega (arith, c.requires)))) call.ensures
