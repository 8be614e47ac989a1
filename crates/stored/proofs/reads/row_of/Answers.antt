-- `row_of` finds where the row stands that a cell reads.
-- Assumes nothing.
use mathlib.Core.Path.{sym, ◌∙◌, ap, ap₂}
use Prim.Native.Nat.{ℕ, ◌+◌, ◌*◌, ◌%◌, ◌^◌}
use native.Mathlib.Omega.{arith}
use Rattle.stored.specs.Reads.{CellRails}
use Rattle.stored.proofs.CellSteps.{cell_power}
use Rattle.stored.proofs.CellReads.{cells_told, cell-told, few-rails, few_before, some-row, no_row, no_rail_word}
use Rattle.stored.proofs.CellFound.{rails_there}
use Rattle.stored.proofs.reads.row_of.Goals as goal

pub returns-then-not-has_rows : goal.returns-then-not-has_rows
returns-then-not-has_rows c = let a = c.args in no_row a.records.now a.k (sym c.has_rows.ensures ∙ c.if-not-has_rows.true) a.rail a.word

pub overflow_shl-limit : goal.overflow_shl-limit
overflow_shl-limit c =
    let R = c.args.records.now in
    let there = sym c.has_rows.ensures ∙ c.if-not-has_rows.false in
    let u = ap (λ (r : CellRails). r.upper) (c.find_rails-rails.ensures ∙ rails_there R c.args.k (cell-told R c.args.k there)) in
    omega (arith, u, few-rails R c.args.k there, c.from-limit.ensures)

pub find_place-place-requires : goal.find_place-place-requires
find_place-place-requires c = cells_told c.args.records.now c.args.k (sym c.has_rows.ensures ∙ c.if-not-has_rows.false)

pub find_address-requires : goal.find_address-requires
find_address-requires c =
    let R = c.args.records.now in
    let there = sym c.has_rows.ensures ∙ c.if-not-has_rows.false in
    ((cells_told R c.args.k there).0, cell-told R c.args.k there)

pub overflow_add-result : goal.overflow_add-result
overflow_add-result c =
    let R = c.args.records.now in
    let there = sym c.has_rows.ensures ∙ c.if-not-has_rows.false in
    let at = c.find_place-place.ensures.1 (cell-told R c.args.k there) in
    omega (arith, at, few_before R c.args.k there, c.find_address.ensures.1)

pub returns-then-from-limit : goal.returns-then-from-limit
returns-then-from-limit c =
    let a = c.args in
    let R = a.records.now in
    let there = sym c.has_rows.ensures ∙ c.if-not-has_rows.false in
    let at = c.find_place-place.ensures.1 (cell-told R a.k there) in
    let u = c.from-limit.ensures ∙ ap (λ (r : CellRails). r.upper) (c.find_rails-rails.ensures ∙ rails_there R a.k (cell-told R a.k there)) in
    let limit = ap (λ (n : ℕ). 1 * 2 ^ n % 2 ^ 64) u ∙ (cell_power (few-rails R a.k there)).0 in
    ap₂ (λ (x y : ℕ). x + y) at c.find_address.ensures.0
    ∙ some-row R a.k there a.rail a.word (omega (arith, limit, c.from.ensures, c.if-from-limit.true))

pub returns : goal.returns
returns c =
    let a = c.args in
    let R = a.records.now in
    let there = sym c.has_rows.ensures ∙ c.if-not-has_rows.false in
    let u = c.from-limit.ensures ∙ ap (λ (r : CellRails). r.upper) (c.find_rails-rails.ensures ∙ rails_there R a.k (cell-told R a.k there)) in
    let limit = ap (λ (n : ℕ). 1 * 2 ^ n % 2 ^ 64) u ∙ (cell_power (few-rails R a.k there)).0 in
    no_rail_word R a.k there a.rail a.word (omega (arith, limit, c.from.ensures, c.if-from-limit.false))
