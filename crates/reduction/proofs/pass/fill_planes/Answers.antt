-- `reduction::pass::fill_planes` meets its contract.
-- Assumes nothing.
use mathlib.Core.Path.{◌≡◌, sym, ◌∙◌, ap}
use mathlib.Core.List.{List}
use Prim.Native.Nat.{ℕ}
use borrow.Author.Rules.{rules}
use Rattle.refusals.specs.Numbers.{number, answered}
use Rattle.refusals.proofs.Promises.{never-zero}
use Rattle.laws.specs.Lists.{puts}
use Rattle.sheet_spec.specs.Table.{Tabled}
use Rattle.sheet_spec.proofs.Promises.{sheet-accepted}
use Rattle.reduction.specs.Packed.{packed_word, places_with}
use Rattle.reduction.proofs.pass.fill_planes.Goals as goal

pub pack-requires : goal.pack-requires
pack-requires c =
    let a = c.args in
    let j = a.job.now in
    let r = sheet-accepted j.n j.m j.k j.l j.order.now a.sheet.now (sym (ap (λ (x : Tabled). x.refusal) c.in_ok-fill_table.ensures)) in
    (r.inputs, r.outputs)

pub pack-requires-2 : goal.pack-requires-2
pack-requires-2 c =
    let a = c.args in
    let j = a.job.now in
    let r = sheet-accepted j.n j.m j.k j.l j.order.now a.sheet.now (sym (ap (λ (x : Tabled). x.refusal) c.in_ok-fill_table.ensures)) in
    (r.inputs, r.outputs)

pub returns : goal.returns
returns c =
    let a = c.args in
    let j = a.job.now in
    let f = c.in_ok-fill_table in record {
      value = ap (λ (x : Tabled). x.refusal) f.ensures;
      zero_after = (λ z. c.pack.ensures ∙ ap (λ (s : List ℕ). puts 512 (packed_word (places_with s j.n j.m 0)) a.planes.now.zero) (ap (λ (x : Tabled). x.table) f.ensures));
      one_after = (λ z. c.pack-2.ensures ∙ ap (λ (s : List ℕ). puts 512 (packed_word (places_with s j.n j.m 1)) a.planes.now.one) (ap (λ (x : Tabled). x.table) f.ensures));
    }

pub returns-in_err-fill_table : goal.returns-in_err-fill_table
returns-in_err-fill_table c =
    let r = c.in_err-fill_table.field-0.0 in
    let same : answered c.from_residual.result ≡ number r = search rules in
    record {
      value = same ∙ ap (λ (x : Tabled). x.refusal) c.in_err-fill_table.ensures;
      zero_after = (λ z. absurd (never-zero r (sym same ∙ z)));
      one_after = (λ z. absurd (never-zero r (sym same ∙ z)));
    }
