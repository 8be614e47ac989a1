-- `sheet::first_five` meets its contract.
-- Assumes nothing.
use mathlib.Core.Path.{refl, sym, ◌∙◌}
use native.Mathlib.Omega.{arith}
use Rattle.sheet_spec.proofs.LeastRefusal.{in_range, short}
use Rattle.sheet_spec.proofs.RecordFields.{order-length}
use Rattle.sheet.proofs.RefusalTests.{five0, five1, five2, five3, five4, five5}
use Rattle.sheet.proofs.first_five.Goals as goal

pub returns-then-out_of_range : goal.returns-then-out_of_range
returns-then-out_of_range c =
    let a = c.args in
    let j = a.job.now in
    sym (five1 j.n j.m j.k j.l j.order.now a.sheet.now (sym c.out_of_range.ensures ∙ c.if-out_of_range.true))

pub not_each_once-requires : goal.not_each_once-requires
not_each_once-requires c =
    let a = c.args in
    let j = a.job.now in
    let r = in_range j.n j.m j.k j.l (sym c.out_of_range.ensures ∙ c.if-out_of_range.false) in
    r

pub returns-then-not_each_once : goal.returns-then-not_each_once
returns-then-not_each_once c =
    let a = c.args in
    let j = a.job.now in
    sym (five2 j.n j.m j.k j.l j.order.now a.sheet.now (sym c.out_of_range.ensures ∙ c.if-out_of_range.false) (sym c.not_each_once.ensures ∙ c.if-not_each_once.true))

pub returns-then-length_refused : goal.returns-then-length_refused
returns-then-length_refused c =
    let a = c.args in
    let j = a.job.now in
    sym (five3 j.n j.m j.k j.l j.order.now a.sheet.now (sym c.out_of_range.ensures ∙ c.if-out_of_range.false) (sym c.not_each_once.ensures ∙ c.if-not_each_once.false) (sym c.length_refused.ensures ∙ c.if-length_refused.true))

pub any_malformed-requires : goal.any_malformed-requires
any_malformed-requires c =
    let a = c.args in
    let j = a.job.now in
    let r = in_range j.n j.m j.k j.l (sym c.out_of_range.ensures ∙ c.if-out_of_range.false) in
    r

pub returns-then-any_malformed : goal.returns-then-any_malformed
returns-then-any_malformed c =
    let a = c.args in
    let j = a.job.now in
    sym (five4 j.n j.m j.k j.l j.order.now a.sheet.now (sym c.out_of_range.ensures ∙ c.if-out_of_range.false) (sym c.not_each_once.ensures ∙ c.if-not_each_once.false) (sym c.length_refused.ensures ∙ c.if-length_refused.false) (sym c.any_malformed.ensures ∙ c.if-any_malformed.true))

pub invariant_of-sheet : goal.invariant_of-sheet
invariant_of-sheet c =
    record { short = short c.args.sheet.now (sym c.length_refused.ensures ∙ c.if-length_refused.false) }

pub invariant_of-result : goal.invariant_of-result
invariant_of-result c =
    let j = c.args.job.now in
    let r = in_range j.n j.m j.k j.l (sym c.out_of_range.ensures ∙ c.if-out_of_range.false) in
    let e = order-length j.n j.m j.order.now (sym c.not_each_once.ensures ∙ c.if-not_each_once.false) in
    record { inputs = r.0; outputs = r.1; whole = omega (arith, r.0, r.1, e) }

pub returns-then-any_hit : goal.returns-then-any_hit
returns-then-any_hit c =
    let a = c.args in
    let j = a.job.now in
    sym (five5 j.n j.m j.k j.l j.order.now a.sheet.now (sym c.out_of_range.ensures ∙ c.if-out_of_range.false) (sym c.not_each_once.ensures ∙ c.if-not_each_once.false) (sym c.length_refused.ensures ∙ c.if-length_refused.false) (sym c.any_malformed.ensures ∙ c.if-any_malformed.false) (sym c.any_hit.ensures ∙ c.if-any_hit.true))

pub returns : goal.returns
returns c =
    let a = c.args in
    let j = a.job.now in
    (five0 j.n j.m j.k j.l j.order.now a.sheet.now (sym c.out_of_range.ensures ∙ c.if-out_of_range.false) (sym c.not_each_once.ensures ∙ c.if-not_each_once.false) (sym c.length_refused.ensures ∙ c.if-length_refused.false) (sym c.any_malformed.ensures ∙ c.if-any_malformed.false) (sym c.any_hit.ensures ∙ c.if-any_hit.false), refl, refl, refl, refl)
