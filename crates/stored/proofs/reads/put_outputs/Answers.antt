-- `put_outputs` sets the outputs of a cell, of records well formed or not.
-- Assumes nothing.
use mathlib.Core.Path.{sym, ◌∙◌, ap, ap₂}
use Prim.Native.Nat.{ℕ, ◌+◌}
use native.Mathlib.Omega.{arith}
use Rattle.stored.specs.Reads.{CellRails}
use Rattle.stored.proofs.CellReads.{few-outs, rows_told_lem, some-outputs, no_outputs, cell_there}
use Rattle.stored.proofs.CellFound.{rails_there}
use Rattle.stored.proofs.reads.put_outputs.Goals as goal

pub count_outputs-requires : goal.count_outputs-requires
count_outputs-requires c = sym c.has_cell.ensures ∙ c.if-has_cell.true

pub overflow_add-first : goal.overflow_add-first
overflow_add-first c =
    let a = c.args in
    let there = sym c.has_cell.ensures ∙ c.if-has_cell.true in
    let few = few-outs a.records.now a.k (rows_told_lem a.records.now a.k there) in
    omega (arith, c.count_outputs.ensures, few, c.from.ensures)

pub store_outputs-requires : goal.store_outputs-requires
store_outputs-requires c =
    let a = c.args in
    let R = a.records.now in
    let there = sym c.has_cell.ensures ∙ c.if-has_cell.true in
    let low = c.from.ensures ∙ ap (λ (r : CellRails). r.lower) (c.find_rails-rails.ensures ∙ rails_there R a.k (cell_there R a.k there)) in
    (there, ap₂ (λ (x y : ℕ). x + y) c.count_outputs.ensures low)

pub returns-then-has_cell : goal.returns-then-has_cell
returns-then-has_cell c =
    let a = c.args in
    c.store_outputs.ensures ∙ some-outputs a.records.now a.k (sym c.has_cell.ensures ∙ c.if-has_cell.true) a.row a.outputs.now

pub returns-else-has_cell : goal.returns-else-has_cell
returns-else-has_cell c = let a = c.args in no_outputs a.records.now a.k (sym c.has_cell.ensures ∙ c.if-has_cell.false) a.row a.outputs.now
