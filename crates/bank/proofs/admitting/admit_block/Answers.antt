-- `bank::admitting::admit_block` meets its contract.
-- Assumes nothing.
use mathlib.Core.Path.{◌≡◌, refl, sym, ◌∙◌, ap, ap₂}
use mathlib.Core.Bool.{true, false}
use Prim.Native.Nat.{ℕ, ◌+◌, ◌*◌, ◌<◌, ◌≤◌}
use native.Mathlib.Omega.{arith}
use lib.ListN.{length}
use borrow.Author.Rules.{rules}
use Rattle.std.specs.Prelude.{Some, is_some}
use Rattle.laws.specs.Tests.{every}
use Rattle.refusals.specs.declared.Refusal.{Refusal}
use Rattle.refusals.specs.declared.Refusal.TheVariants.{NotTimed}
use Rattle.refusals.specs.Numbers.{number}
use Rattle.bank.specs.Given.{given_number, admission_given}
use Rattle.bank_spec.specs.Due.{timed}
use Rattle.bank_spec.specs.State.{rows_before}
use Rattle.bank_spec.specs.Calls.{handed, with_block}
use Rattle.bank.proofs.timing.DueTests.{fits_at}
use Rattle.bank.proofs.formed.HeldBlocks.{bank_there}
use Rattle.bank.proofs.admitting.AdmissionCases.{there_by, missing_by, block-has, admit_12_state, admit_12_block, admit_16, admit_13, admit_14, admit_11, rows_fit, admit_accepts}
use Rattle.bank.proofs.admitting.admit_block.Goals as goal

pub returns-then-not-state_formed : goal.returns-then-not-state_formed
returns-then-not-state_formed c =
    let a = c.args in
    let k = a.bank.now in
    let s = a.scan.now in
    admit_12_state k s a.rows.now a.records.now a.bytes.now a.period a.phase (sym c.state_formed.ensures ∙ c.if-not-state_formed.true)

pub returns-then-not-well_formed : goal.returns-then-not-well_formed
returns-then-not-well_formed c =
    let a = c.args in
    let k = a.bank.now in
    let s = a.scan.now in
    let f = sym c.state_formed.ensures ∙ c.if-not-state_formed.false in
    admit_12_block k s a.rows.now a.records.now a.bytes.now a.period a.phase f (sym c.well_formed-2.ensures ∙ c.if-not-well_formed.true)

pub returns-in_err-timing : goal.returns-in_err-timing
returns-in_err-timing c =
    let a = c.args in
    let k = a.bank.now in
    let s = a.scan.now in
    let f = sym c.state_formed.ensures ∙ c.if-not-state_formed.false in
    let w = sym c.well_formed-2.ensures ∙ c.if-not-well_formed.false in
    let r = c.in_err-timing.field-0.0 in
    let none = missing_by c.new.result NotTimed c.ok_or.ensures.value r c.in_err-timing.was in
    let z : timed a.period a.phase ≡ false = sym c.new.ensures.which ∙ ap is_some none.0 in
    let told : admission_given c.from_residual.result k s a.rows.now ≡ given_number (number r) k s a.rows.now = search rules in
    told ∙ ap (λ (x : Refusal). given_number (number x) k s a.rows.now) none.1 ∙ admit_16 k s a.rows.now a.records.now a.bytes.now a.period a.phase f w z

pub invariant_of-blocks : goal.invariant_of-blocks
invariant_of-blocks c =
    let a = c.args in
    let k = a.bank.now in
    let s = a.scan.now in
    let f = sym c.state_formed.ensures ∙ c.if-not-state_formed.false in
    let h = bank_there k s f in
    record { few = h.few; formed = h.all }

pub returns-then-count-ge-MOST_BLOCKS : goal.returns-then-count-ge-MOST_BLOCKS
returns-then-count-ge-MOST_BLOCKS c =
    let a = c.args in
    let k = a.bank.now in
    let s = a.scan.now in
    let f = sym c.state_formed.ensures ∙ c.if-not-state_formed.false in
    let w = sym c.well_formed-2.ensures ∙ c.if-not-well_formed.false in
    let t = c.in_ok-timing.timing in
    let some : c.new.result ≡ Some t = there_by c.new.result NotTimed c.ok_or.ensures.value c.in_ok-timing.was in
    let z : timed a.period a.phase ≡ true = sym c.new.ensures.which ∙ ap is_some some in
    admit_13 k s a.rows.now a.records.now a.bytes.now a.period a.phase f w z c.count.ensures c.if-count-ge-MOST_BLOCKS.true

pub cells_fit-requires : goal.cells_fit-requires
cells_fit-requires c =
    let a = c.args in
    let k = a.bank.now in
    let s = a.scan.now in
    let w = sym c.well_formed-2.ensures ∙ c.if-not-well_formed.false in
    omega (arith, c.cell_count.ensures, (block-has a.records.now a.bytes.now w).cells)

pub returns-then-not-cells_fit : goal.returns-then-not-cells_fit
returns-then-not-cells_fit c =
    let a = c.args in
    let k = a.bank.now in
    let s = a.scan.now in
    let f = sym c.state_formed.ensures ∙ c.if-not-state_formed.false in
    let w = sym c.well_formed-2.ensures ∙ c.if-not-well_formed.false in
    let t = c.in_ok-timing.timing in
    let some : c.new.result ≡ Some t = there_by c.new.result NotTimed c.ok_or.ensures.value c.in_ok-timing.was in
    let z : timed a.period a.phase ≡ true = sym c.new.ensures.which ∙ ap is_some some in
    let same : (t.period ≡ a.period) × (t.phase ≡ a.phase) = rw some at c.new.ensures.held in
    let h : k.count < 8 = omega (arith, c.count.ensures, c.if-count-ge-MOST_BLOCKS.false) in
    let q = c.cells_fit.ensures ∙ ap₂ (λ (p f : ℕ). every 8 (fits_at k k.count p f c.cell_count.result)) same.0 same.1 in
    admit_14 k s a.rows.now a.records.now a.bytes.now a.period a.phase f w z refl h c.cell_count.ensures q c.if-not-cells_fit.true

pub overflow_add-total : goal.overflow_add-total
overflow_add-total c =
    let a = c.args in
    let k = a.bank.now in
    let s = a.scan.now in
    let w = sym c.well_formed-2.ensures ∙ c.if-not-well_formed.false in
    omega (arith, c.rows_before-at.ensures.1, c.row_count.ensures, (block-has a.records.now a.bytes.now w).few)

pub overflow_mul-total : goal.overflow_mul-total
overflow_mul-total c =
    let a = c.args in
    let k = a.bank.now in
    let s = a.scan.now in
    let w = sym c.well_formed-2.ensures ∙ c.if-not-well_formed.false in
    omega (arith, c.rows_before-at.ensures.1, c.row_count.ensures, (block-has a.records.now a.bytes.now w).few)

pub returns-then-rows-total : goal.returns-then-rows-total
returns-then-rows-total c =
    let a = c.args in
    let k = a.bank.now in
    let s = a.scan.now in
    let f = sym c.state_formed.ensures ∙ c.if-not-state_formed.false in
    let w = sym c.well_formed-2.ensures ∙ c.if-not-well_formed.false in
    let t = c.in_ok-timing.timing in
    let some : c.new.result ≡ Some t = there_by c.new.result NotTimed c.ok_or.ensures.value c.in_ok-timing.was in
    let z : timed a.period a.phase ≡ true = sym c.new.ensures.which ∙ ap is_some some in
    let same : (t.period ≡ a.period) × (t.phase ≡ a.phase) = rw some at c.new.ensures.held in
    let h : k.count < 8 = omega (arith, c.count.ensures, c.if-count-ge-MOST_BLOCKS.false) in
    let q = c.cells_fit.ensures ∙ ap₂ (λ (p f : ℕ). every 8 (fits_at k k.count p f c.cell_count.result)) same.0 same.1 in
    let u = c.rows_before-at.ensures.0 ∙ ap (rows_before k) c.count-2.ensures in
    admit_11 k s a.rows.now a.records.now a.bytes.now a.period a.phase f w z refl h c.cell_count.ensures q c.if-not-cells_fit.false u c.row_count.ensures c.if-rows-total.true

pub copy_at-requires : goal.copy_at-requires
copy_at-requires c =
    let a = c.args in
    let k = a.bank.now in
    let s = a.scan.now in
    let f = sym c.state_formed.ensures ∙ c.if-not-state_formed.false in
    let w = sym c.well_formed-2.ensures ∙ c.if-not-well_formed.false in
    let t = c.in_ok-timing.timing in
    let some : c.new.result ≡ Some t = there_by c.new.result NotTimed c.ok_or.ensures.value c.in_ok-timing.was in
    let z : timed a.period a.phase ≡ true = sym c.new.ensures.which ∙ ap is_some some in
    let same : (t.period ≡ a.period) × (t.phase ≡ a.phase) = rw some at c.new.ensures.held in
    let h : k.count < 8 = omega (arith, c.count.ensures, c.if-count-ge-MOST_BLOCKS.false) in
    let q = c.cells_fit.ensures ∙ ap₂ (λ (p f : ℕ). every 8 (fits_at k k.count p f c.cell_count.result)) same.0 same.1 in
    let u = c.rows_before-at.ensures.0 ∙ ap (rows_before k) c.count-2.ensures in
    let g : c.rows_before-at.result * 2 + length a.bytes.now ≤ length a.rows.now =
    rows_fit k s a.rows.now a.records.now a.bytes.now a.period a.phase f w z refl h c.cell_count.ensures q c.if-not-cells_fit.false u c.row_count.ensures c.if-rows-total.false in
    g

pub with_block-requires : goal.with_block-requires
with_block-requires c =
    let a = c.args in
    let k = a.bank.now in
    let s = a.scan.now in
    let w = sym c.well_formed-2.ensures ∙ c.if-not-well_formed.false in
    let h : k.count < 8 = omega (arith, c.count.ensures, c.if-count-ge-MOST_BLOCKS.false) in
    (h, (block-has a.records.now a.bytes.now w).size)

pub returns : goal.returns
returns c =
    let a = c.args in
    let k = a.bank.now in
    let s = a.scan.now in
    let f = sym c.state_formed.ensures ∙ c.if-not-state_formed.false in
    let w = sym c.well_formed-2.ensures ∙ c.if-not-well_formed.false in
    let t = c.in_ok-timing.timing in
    let some : c.new.result ≡ Some t = there_by c.new.result NotTimed c.ok_or.ensures.value c.in_ok-timing.was in
    let z : timed a.period a.phase ≡ true = sym c.new.ensures.which ∙ ap is_some some in
    let same : (t.period ≡ a.period) × (t.phase ≡ a.phase) = rw some at c.new.ensures.held in
    let h : k.count < 8 = omega (arith, c.count.ensures, c.if-count-ge-MOST_BLOCKS.false) in
    let q = c.cells_fit.ensures ∙ ap₂ (λ (p f : ℕ). every 8 (fits_at k k.count p f c.cell_count.result)) same.0 same.1 in
    let u = c.rows_before-at.ensures.0 ∙ ap (rows_before k) c.count-2.ensures in
    let R = a.records.now in
    let bank : c.with_block.result ≡ with_block k (handed R a.bytes.now a.period a.phase) =
    c.with_block.ensures a.bytes.now ∙ ap₂ (λ (p f : ℕ). with_block k (handed R a.bytes.now p f)) same.0 same.1 in
    let rows = c.copy_at.ensures in
    admit_accepts k s a.rows.now a.records.now a.bytes.now a.period a.phase f w z refl h c.cell_count.ensures q c.if-not-cells_fit.false u c.row_count.ensures c.if-rows-total.false bank c.at_rest.ensures rows
