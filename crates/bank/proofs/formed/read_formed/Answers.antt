-- `bank::formed::read_formed` meets its contract.
-- Assumes nothing.
use mathlib.Core.Path.{◌≡◌, refl, ◌∙◌, ap}
use Prim.Native.Nat.{ℕ, ◌*◌, ◌%◌, ◌^◌, ◌≤◌, ◌<◌}
use mathlib.Core.List.{List}
use native.Mathlib.Omega.{arith}
use borrow.Author.Tests.{lt-ltb, le-ltb}
use lib.Dec.{ltb}
use Rattle.stored_spec.specs.StoredForm.{cell_count}
use Rattle.stored.specs.Reads.{cell_rails}
use Rattle.bank_spec.specs.State.{records_of}
use Rattle.bank.proofs.formed.HeldBlocks.{block_at, rails_at_most, upper_is, words_at_most}
use Rattle.bank.proofs.formed.read_formed.Goals as goal

pub overflow_shl-result : goal.overflow_shl-result
overflow_shl-result c =
    let a = c.args in
    let k = a.blocks.bank.now in
    let e = block_at k a.blocks.formed a.b c.requires in
    let l : a.cell < cell_count (records_of k a.b) = omega (arith, c.cells.ensures.0, c.if-cell-cells.true) in
    let r = c.cell_rails-rails.ensures ∙ ap (λ (R : List ℕ). cell_rails R a.cell) c.records.ensures in
    omega (arith, upper_is k a.b e a.cell l r c.from.ensures, rails_at_most k a.b e a.cell l)

pub returns-then-cell-cells : goal.returns-then-cell-cells
returns-then-cell-cells c =
    let a = c.args in
    let k = a.blocks.bank.now in
    let R = records_of k a.b in
    let e = block_at k a.blocks.formed a.b c.requires in
    let l : a.cell < cell_count R = omega (arith, c.cells.ensures.0, c.if-cell-cells.true) in
    let r = c.cell_rails-rails.ensures ∙ ap (λ (R : List ℕ). cell_rails R a.cell) c.records.ensures in
    let few : 2 ^ c.from.result ≤ 4096 = words_at_most k a.b e a.cell l r c.from.ensures in
    let pow : 1 * 2 ^ c.from.result % 2 ^ 64 ≡ 2 ^ c.from.result = omega (arith, few) in
    let upper = upper_is k a.b e a.cell l r c.from.ensures in
    rw (lt-ltb a.cell (cell_count R) l) (ap (ltb a.rail) (pow ∙ ap (λ (m : ℕ). 2 ^ m) upper))

pub returns : goal.returns
returns c =
    let a = c.args in
    let R = records_of a.blocks.bank.now a.b in
    rw (le-ltb a.cell (cell_count R) (omega (arith, c.cells.ensures.0, c.if-cell-cells.false))) refl
