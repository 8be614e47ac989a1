-- `node_table::compile` meets its contract.
-- Assumes nothing.
use mathlib.Core.Path.{◌≡◌, sym}
use Prim.Native.Nat.{ℕ}
use native.Mathlib.Omega.{arith}
use borrow.Author.Rules.{rules}
use Rattle.std.specs.Prelude.{Ok, Err}
use lib.ListN.{replicate, length-replicate}
use Rattle.laws.proofs.Puts.{puts_none}
use Rattle.refusals.specs.Numbers.{number}
use Rattle.sheet_spec.specs.Given.{job_given}
use Rattle.cutting_spec.specs.Compile.{refused}
use Rattle.cutting.specs.Outcome.{answered, compilation_given}
use Rattle.node_table.specs.Nodes.{node_in}
use Rattle.node_table.proofs.WordsAndNodes.{fill_room, table-outcome}
use Rattle.node_table.proofs.compile.Goals as goal

pub returns-in_err-made : goal.returns-in_err-made
returns-in_err-made c =
    let a = c.args in
    let w = c.compile_words in
    let none = c.in_err-made.field-0.0 in
    let same : compilation_given c.from_residual.result ≡ answered (refused (number none)) = search rules in
    rw same
    (table-outcome a.nodes.now (replicate 30720 0) a.records.now a.rows.now (length-replicate {A = ℕ} 30720 0) (job_given a.job.now) a.sheet.now
    (compilation_given (Err none)) w.new.words w.new.records w.new.rows c.in_err-made.ensures a.nodes.now (sym (puts_none (node_in w.new.words) a.nodes.now)))

pub fill-requires : goal.fill-requires
fill-requires c =
    let a = c.args in
    let w = c.compile_words in
    let room = fill_room a.nodes.now (replicate 30720 0) a.records.now a.rows.now (length-replicate {A = ℕ} 30720 0) (job_given a.job.now) a.sheet.now
    (compilation_given (Ok c.in_ok-made.made)) w.new.words w.new.records w.new.rows c.in_ok-made.ensures in
    (omega (arith, room.0), omega (arith, room.1))

pub returns : goal.returns
returns c =
    let a = c.args in
    let w = c.compile_words in
    table-outcome a.nodes.now (replicate 30720 0) a.records.now a.rows.now (length-replicate {A = ℕ} 30720 0) (job_given a.job.now) a.sheet.now
    (compilation_given (Ok c.in_ok-made.made)) w.new.words w.new.records w.new.rows c.in_ok-made.ensures c.fill.new.nodes (rw c.from.ensures at c.fill.ensures)
