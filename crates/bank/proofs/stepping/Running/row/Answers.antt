-- `bank::stepping::Running::row` meets its contract.
-- Assumes nothing.
use mathlib.Core.Path.{sym, ◌∙◌, ap}
use native.Mathlib.Omega.{arith}
use Rattle.stored_spec.specs.RowBytes.{two_bytes, row_value}
use Rattle.stored_spec.proofs.Promises.{room_two, row_two}
use Rattle.bank_spec.specs.State.{rows_held}
use Rattle.bank_spec.specs.Calls.{next_row}
use Rattle.bank.proofs.stepping.NextRead.{held, block_held, block_below, place_is, place_held}
use Rattle.bank.proofs.stepping.Running.row.Goals as goal

pub records-requires : goal.records-requires
records-requires c =
    let s = c.args.self.now in
    let k = s.blocks.bank.now in
    let t = s.scan.now in
    omega (arith, c.from-b.ensures, block_held k t s.formed s.runs)

pub bounds-self-b : goal.bounds-self-b
bounds-self-b c =
    let s = c.args.self.now in
    let k = s.blocks.bank.now in
    let t = s.scan.now in
    omega (arith, c.from-b.ensures, block_below k t s.formed s.runs)

pub rows_before-requires : goal.rows_before-requires
rows_before-requires c =
    let s = c.args.self.now in
    let k = s.blocks.bank.now in
    let t = s.scan.now in
    omega (arith, c.from-b.ensures, block_held k t s.formed s.runs)

pub overflow_add-at : goal.overflow_add-at
overflow_add-at c =
    let s = c.args.self.now in
    let k = s.blocks.bank.now in
    let t = s.scan.now in
    let inside = place_held k t s.formed s.runs c.from-b.ensures c.records.ensures c.from.ensures c.row_read-place.ensures c.rows_before.ensures.0 in
    let few = (held k t s.formed s.runs).rows in
    let space = room_two (rows_held k) in
    omega (arith, inside, few)

pub overflow_mul-at : goal.overflow_mul-at
overflow_mul-at c =
    let s = c.args.self.now in
    let k = s.blocks.bank.now in
    let t = s.scan.now in
    let inside = place_held k t s.formed s.runs c.from-b.ensures c.records.ensures c.from.ensures c.row_read-place.ensures c.rows_before.ensures.0 in
    let few = (held k t s.formed s.runs).rows in
    let space = room_two (rows_held k) in
    omega (arith, inside, few)

pub bounds-rows-at : goal.bounds-rows-at
bounds-rows-at c =
    let s = c.args.self.now in
    let k = s.blocks.bank.now in
    let t = s.scan.now in
    let inside = place_held k t s.formed s.runs c.from-b.ensures c.records.ensures c.from.ensures c.row_read-place.ensures c.rows_before.ensures.0 in
    let few = (held k t s.formed s.runs).rows in
    let space = room_two (rows_held k) in
    omega (arith, inside, space, c.requires)

pub overflow_add-at-2 : goal.overflow_add-at-2
overflow_add-at-2 c =
    let s = c.args.self.now in
    let k = s.blocks.bank.now in
    let t = s.scan.now in
    let inside = place_held k t s.formed s.runs c.from-b.ensures c.records.ensures c.from.ensures c.row_read-place.ensures c.rows_before.ensures.0 in
    let few = (held k t s.formed s.runs).rows in
    let space = room_two (rows_held k) in
    omega (arith, inside, few)

pub bounds-rows-at-2 : goal.bounds-rows-at-2
bounds-rows-at-2 c =
    let s = c.args.self.now in
    let k = s.blocks.bank.now in
    let t = s.scan.now in
    let inside = place_held k t s.formed s.runs c.from-b.ensures c.records.ensures c.from.ensures c.row_read-place.ensures c.rows_before.ensures.0 in
    let few = (held k t s.formed s.runs).rows in
    let space = room_two (rows_held k) in
    omega (arith, inside, space, c.requires)

pub returns : goal.returns
unfolding next_row
returns c =
    let s = c.args.self.now in
    let k = s.blocks.bank.now in
    let t = s.scan.now in
    let rows = c.args.rows.now in
    c.pair.ensures ∙ sym (row_two rows _)
    ∙ ap (row_value two_bytes rows) (place_is k t s.formed s.runs c.from-b.ensures c.records.ensures c.from.ensures c.row_read-place.ensures c.rows_before.ensures.0)
