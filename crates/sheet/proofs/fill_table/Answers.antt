-- `sheet::fill_table` meets its contract.
-- Assumes nothing.
use mathlib.Core.Path.{◌≡◌, refl, sym, ◌∙◌, ap, ap₂}
use mathlib.Core.Bool.{true, false}
use mathlib.Core.List.{List}
use Prim.Native.Nat.{ℕ}
use native.Mathlib.Omega.{arith}
use lib.Seq.{sets}
use borrow.Author.Rules.{rules}
use Rattle.refusals.specs.Numbers.{number, answered}
use Rattle.refusals.proofs.Promises.{never-zero}
use Rattle.sheet_spec.specs.Job.{job}
use Rattle.sheet_spec.specs.Refusals.{sheet_refusal}
use Rattle.sheet_spec.specs.Table.{tabled}
use Rattle.sheet_spec.proofs.LeastRefusal.{after_write, after-refusal}
use Rattle.sheet.specs.Planes.{input_array, numbered_field, zeros_plane, ones_plane}
use Rattle.sheet.specs.Depends.{any_depends}
use Rattle.sheet.proofs.RefusalTests.{first-least, passed, sixth}
use Rattle.sheet.proofs.lines.TableMade.{lined}
use Rattle.sheet.proofs.fill_table.Goals as goal

pub returns-in_err-job : goal.returns-in_err-job
returns-in_err-job c =
    let a = c.args in
    let j = a.job.now in
    let same : answered c.from_residual.result ≡ number c.in_err-job.field-0.0 = search rules in
    let r = c.in_err-job.field-0.0 in
    let e = same ∙ c.in_err-job.ensures in
    let least = e ∙ first-least j.n j.m j.k j.l j.order.now a.sheet.now (λ z. never-zero r (c.in_err-job.ensures ∙ z)) in
    ap₂ tabled least (after-refusal j.n j.m j.k j.l j.order.now a.sheet.now a.table.now (λ z. never-zero r (sym same ∙ least ∙ z)))

pub returns-then-any_depends : goal.returns-then-any_depends
unfolding input_array numbered_field zeros_plane ones_plane
returns-then-any_depends c =
    let a = c.args in
    let j = a.job.now in
    let g = c.in_ok-job.ensures in
    let planes = c.fill_planes.ensures in
    let is : c.list_of.new.list ≡ input_array j.order.now = c.list_of.ensures ∙ rw g.3 refl in
    let found : any_depends j.n j.m j.order.now c.list_of.new.list c.fill_planes.new.planes.zeros c.fill_planes.new.planes.ones ≡ true =
    rw (← g.1, ← g.2, ← g.3) (sym c.any_depends.ensures ∙ c.if-any_depends.true) in
    let least : sheet_refusal (job j.n j.m j.k j.l j.order.now) a.sheet.now ≡ 6 =
    sixth j.n j.m j.k j.l j.order.now a.sheet.now g.0 _ _ _ is (planes.zeros_after ∙ rw (is, g.1, g.4) refl) (planes.ones_after ∙ rw (is, g.1, g.4) refl) ∙ rw found refl in
    ap₂ tabled (sym least) (after-refusal j.n j.m j.k j.l j.order.now a.sheet.now a.table.now (λ z. absurd (omega (arith, least, z))))

pub returns : goal.returns
unfolding input_array numbered_field zeros_plane ones_plane
returns c =
    let a = c.args in
    let j = a.job.now in
    let g = c.in_ok-job.ensures in
    let planes = c.fill_planes.ensures in
    let is : c.list_of.new.list ≡ input_array j.order.now = c.list_of.ensures ∙ rw g.3 refl in
    let found : any_depends j.n j.m j.order.now c.list_of.new.list c.fill_planes.new.planes.zeros c.fill_planes.new.planes.ones ≡ false =
    rw (← g.1, ← g.2, ← g.3) (sym c.any_depends.ensures ∙ c.if-any_depends.false) in
    let least : sheet_refusal (job j.n j.m j.k j.l j.order.now) a.sheet.now ≡ 0 =
    sixth j.n j.m j.k j.l j.order.now a.sheet.now g.0 _ _ _ is (planes.zeros_after ∙ rw (is, g.1, g.4) refl) (planes.ones_after ∙ rw (is, g.1, g.4) refl) ∙ rw found refl in
    let written = rw (g.1, g.2, g.3) at c.write.ensures in
    ap₂ tabled (sym least)
    (written
    ∙ ap (λ (t : List ℕ). sets a.table.now 0 t)
    (lined j.n j.m j.order.now a.sheet.now (passed j.n j.m j.k j.l j.order.now a.sheet.now g.0).0 _ _ _ (planes.zeros_after ∙ rw (is, g.1, g.4) refl) (planes.ones_after ∙ rw (is, g.1, g.4) refl) refl)
    ∙ after_write j.n j.m j.k j.l j.order.now a.sheet.now a.table.now least)
