-- `cutting::cell_rows::write_columns` meets its contract.
-- Assumes nothing.
use mathlib.Core.Path.{◌≡◌, sym, ◌∙◌, ap}
use Prim.Native.Nat.{ℕ, ◌+◌, ◌*◌}
use native.Mathlib.Nat.{zero-mul}
use lib.ListN.{length}
use Rattle.laws.specs.Lists.{puts_at}
use Rattle.laws.proofs.Lists.{row_end}
use Rattle.laws.proofs.Puts.{puts_at-none, length-puts_at}
use Rattle.cutting.specs.RowWalks.{walked_row}
use Rattle.cutting.proofs.cell_rows.RowSteps.{column_small, column_more}
use Rattle.cutting.proofs.cell_rows.BlockRows.{few-inputs}
use native.Mathlib.Omega.{arith}
use Rattle.cutting.proofs.cell_rows.write_columns.Goals as goal

pub loop-c-init : goal.loop-c-init
loop-c-init c =
    let a = c.args in
    let f : ℕ → ℕ = walked_row a.span.now.diagram.words.now a.span.now.diagram.order.now a.span.now.top a.span.now.bottom a.span.now.upper a.span.now.width
    a.span.now.lower a.span.now.rails a.span.now.count in
    sym (ap (λ (k : ℕ). puts_at a.at k f a.rows.now) (zero-mul a.size) ∙ puts_at-none f a.at a.rows.now)

pub write_column-requires : goal.write_column-requires
write_column-requires c =
    let l = c.loop-c in
    let a = c.args in
    let p = c.requires in
    let f : ℕ → ℕ = walked_row a.span.now.diagram.words.now a.span.now.diagram.order.now a.span.now.top a.span.now.bottom a.span.now.upper a.span.now.width
    a.span.now.lower a.span.now.rails a.span.now.count in
    let t = c.loop-c-test.true in
    let v : c.from.result + l.c ≡ a.span.now.upper + l.c = omega (arith, c.from.ensures) in (
      p.0,
      p.1,
      few-inputs a.span.now.count a.size p.1 p.2,
      omega (arith, row_end l.c a.span.now.width a.size t, p.4, ap length l.invariant ∙ length-puts_at f a.at (l.c * a.size) a.rows.now),
      λ x h. column_small a.span.now.diagram.words.now a.span.now.diagram.order.now a.span.now.top a.span.now.bottom a.span.now.upper a.span.now.width a.span.now.lower a.span.now.rails a.span.now.count a.size p.1 p.5
          l.c (c.from.result + l.c) x t v h,
    )

pub loop-c-preserved : goal.loop-c-preserved
loop-c-preserved c =
    let l = c.loop-c in
    let a = c.args in
    let p = c.requires in
    let t = c.loop-c-test.true in
    let v : c.from.result + l.c ≡ a.span.now.upper + l.c = omega (arith, c.from.ensures) in column_more a.span.now.diagram.words.now a.span.now.diagram.order.now a.span.now.top a.span.now.bottom a.span.now.upper a.span.now.width a.span.now.lower a.span.now.rails a.span.now.count a.size p.1 a.at
    l.c (c.from.result + l.c) a.rows.now l.rows _ t v l.invariant c.write_column.ensures

pub returns : goal.returns
returns c =
    let l = c.loop-c in
    let e : l.c ≡ c.args.span.now.width = omega (arith, c.loop-c-test.false) in
    rw e at l.invariant
