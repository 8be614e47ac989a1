-- `bank::stepping::step_once` meets its contract.
-- Assumes nothing.
use mathlib.Core.Path.{sym, ◌∙◌, ap}
use native.Mathlib.Omega.{arith}
use Rattle.stored_spec.proofs.Promises.{room_two}
use Rattle.bank_spec.specs.State.{rows_before, rows_held}
use Rattle.bank.proofs.formed.HeldBlocks.{bank_there}
use Rattle.bank.proofs.stepping.StepCases.{not-formed, no_scan, few-rows, one_read_lem}
use Rattle.bank.proofs.stepping.step_once.Goals as goal

pub returns-then-not-state_formed : goal.returns-then-not-state_formed
returns-then-not-state_formed c =
    let f = c.state_formed in
    not-formed c.args.bank.now c.args.scan.now c.args.rows.now (sym f.ensures ∙ c.if-not-state_formed.true)

pub returns-then-not-scan : goal.returns-then-not-scan
returns-then-not-scan c =
    let f = c.state_formed in
    let e = sym f.ensures ∙ c.if-not-state_formed.false in
    no_scan c.args.bank.now c.args.scan.now c.args.rows.now e c.if-not-scan.true

pub invariant_of-blocks : goal.invariant_of-blocks
invariant_of-blocks c =
    let h = bank_there c.args.bank.now c.args.scan.now (sym c.state_formed.ensures ∙ c.if-not-state_formed.false) in
    record { few = h.few; formed = h.all }

pub rows_before-requires : goal.rows_before-requires
rows_before-requires c = omega (arith, c.count.ensures)

pub returns-then-rows-rows_before : goal.returns-then-rows-rows_before
returns-then-rows-rows_before c =
    let f = c.state_formed in
    let e = sym f.ensures ∙ c.if-not-state_formed.false in
    let on = c.if-not-scan.false in
    let all = c.rows_before.ensures.0 ∙ ap (rows_before c.args.bank.now) c.count.ensures in
    few-rows c.args.bank.now c.args.scan.now c.args.rows.now e on (omega (arith, all, c.if-rows-rows_before.true, room_two (rows_held c.args.bank.now)))

pub invariant_of-next : goal.invariant_of-next
invariant_of-next c =
    record { formed = sym c.state_formed.ensures ∙ c.if-not-state_formed.false; runs = c.if-not-scan.false }

pub row-x-requires : goal.row-x-requires
row-x-requires c =
    let k = c.args.bank.now in
    let all = c.rows_before.ensures.0 ∙ ap (rows_before k) c.count.ensures in
    omega (arith, all, c.if-rows-rows_before.false, room_two (rows_held k))

pub returns : goal.returns
returns c =
    let f = c.state_formed in
    let e = sym f.ensures ∙ c.if-not-state_formed.false in
    let on = c.if-not-scan.false in
    let all =
    c.rows_before.ensures.0 ∙ ap (rows_before c.args.bank.now) c.count.ensures in
    one_read_lem c.args.bank.now c.args.scan.now c.args.rows.now e on (omega (arith, all, c.if-rows-rows_before.false, room_two (rows_held c.args.bank.now)))
    c.row-x.ensures c.moved_on.ensures
