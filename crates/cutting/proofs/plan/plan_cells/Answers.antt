-- `cutting::plan::plan_cells` meets its contract.
-- Assumes nothing.
use mathlib.Core.Path.{◌≡◌, ◌∙◌, ap}
use borrow.Author.Rules.{rules}
use lib.ListN.{length, get_or}
use Rattle.std.specs.Prelude.{None, Err}
use Rattle.refusals.specs.declared.Refusal.{Refusal}
use Rattle.cutting.proofs.plan.PlanParts.{refused-way, taken-way, none-listed, nexts-low, cuts-small, way-few, way-listed}
use Rattle.cutting.proofs.plan.plan_cells.Goals as goal

pub returns-in_err-way : goal.returns-in_err-way
returns-in_err-way c =
    let a = c.args in
    let p = c.requires in
    let t = length a.job.now.order.now in
    let e = c.in_err-way.field-0.0 in
    let same : c.from_residual.result ≡ Err e = search rules in
    let (none, is) = refused-way (get_or c.best_ways-ways.result t None) e c.in_err-way.ensures.value in
    same ∙ ap (λ (x : Refusal). Err x) is
    ∙ none-listed t a.job.now.k a.job.now.l a.job.now.order.now a.widths.now c.levels_of-levels.result c.best_ways-ways.result p.0 p.1 p.2 p.3 c.levels_of-levels.ensures c.best_ways-ways.ensures none

pub follow-cuts-requires : goal.follow-cuts-requires
follow-cuts-requires c =
    let a = c.args in
    let p = c.requires in
    let t = length a.job.now.order.now in
    let found = taken-way (get_or c.best_ways-ways.result t None) c.in_ok-way.way c.in_ok-way.ensures.value in (
      p.1,
      way-few t a.job.now.k a.job.now.l a.job.now.order.now a.widths.now c.levels_of-levels.result c.best_ways-ways.result p.0 p.1 p.2 p.3 c.levels_of-levels.ensures c.best_ways-ways.ensures
          c.in_ok-way.way found c.from-cells.result c.from-cells.ensures,
      nexts-low t a.job.now.k a.job.now.l a.job.now.order.now a.widths.now c.levels_of-levels.result c.best_ways-ways.result p.0 p.1 p.2 p.3 c.levels_of-levels.ensures c.best_ways-ways.ensures,
    )

pub row_total-rows-requires : goal.row_total-rows-requires
row_total-rows-requires c =
    let a = c.args in
    let p = c.requires in
    let t = length a.job.now.order.now in
    let found = taken-way (get_or c.best_ways-ways.result t None) c.in_ok-way.way c.in_ok-way.ensures.value in
    let few = way-few t a.job.now.k a.job.now.l a.job.now.order.now a.widths.now c.levels_of-levels.result c.best_ways-ways.result p.0 p.1 p.2 p.3 c.levels_of-levels.ensures c.best_ways-ways.ensures
    c.in_ok-way.way found c.from-cells.result c.from-cells.ensures in (
      few,
      cuts-small t a.job.now.k a.job.now.l a.job.now.order.now a.widths.now c.levels_of-levels.result c.best_ways-ways.result p.0 p.1 p.2 p.3 c.levels_of-levels.ensures c.best_ways-ways.ensures
          c.from-cells.result c.follow-cuts.result few c.follow-cuts.ensures,
    )

pub returns : goal.returns
returns c =
    let a = c.args in
    let p = c.requires in
    let t = length a.job.now.order.now in
    let found = taken-way (get_or c.best_ways-ways.result t None) c.in_ok-way.way c.in_ok-way.ensures.value in
    way-listed t a.job.now.k a.job.now.l a.job.now.order.now a.widths.now c.levels_of-levels.result c.best_ways-ways.result p.0 p.1 p.2 p.3 c.levels_of-levels.ensures c.best_ways-ways.ensures
    c.in_ok-way.way found c.follow-cuts.result c.from-cells.result c.row_total-rows.result c.from-cells.ensures c.follow-cuts.ensures
    c.row_total-rows.ensures
