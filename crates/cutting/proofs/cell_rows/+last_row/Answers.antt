-- `cutting::cell_rows::last_row` meets its contract. The measure is the number of heights left.
-- Assumes nothing.
use mathlib.Core.Path.{refl, ◌∙◌, ap, ap₂}
use Prim.Native.Nat.{ℕ, ◌-◌}
use native.Mathlib.Omega.{arith}
use Rattle.reduction_spec.specs.Descent.{descend}
use Rattle.reduction_spec.proofs.Promises.{met_still, met_few}
use Rattle.cutting.specs.RowWalks.{row_from}
use Rattle.cutting.proofs.cell_rows.BlockRows.{going_on, ended-row, input_row, output_row, met_next}
use Rattle.cutting.proofs.cell_rows.+last_row.Goals as goal

pub row_from-requires : goal.row_from-requires
row_from-requires t c =
    let a = c.args in
    let p = c.requires in
    (p.2, omega (arith, p.3, ended-row a.span.now.diagram.words.now a.span.now.diagram.order.now a.span.now.bottom a.span.now.lower a.span.now.rails a.k a.node a.o 0 a.x c.if-k-node.true))

pub returns-then-k-node : goal.returns-then-k-node
returns-then-k-node t c =
    let a = c.args in
    c.row_from.ensures
    ∙ ended-row a.span.now.diagram.words.now a.span.now.diagram.order.now a.span.now.bottom a.span.now.lower a.span.now.rails a.k a.node a.o 0 a.x c.if-k-node.true

pub last_row-requires : goal.last_row-requires
last_row-requires t c =
    let a = c.args in
    let p = c.requires in
    let g = going_on a.k a.node c.if-k-node.false in
    let row : ℕ → ℕ → ℕ = λ v o. row_from a.span.now.lower a.span.now.rails (descend a.span.now.diagram.words.now a.span.now.diagram.order.now a.span.now.bottom (a.k - 1) v a.x 0 o) in
    let e = ap (λ (v : ℕ). row v a.o) c.chosen-next.ensures ∙ input_row a.span.now.diagram.words.now a.span.now.diagram.order.now a.span.now.bottom a.span.now.lower a.span.now.rails a.k a.node a.o 0 g.0 g.1
    c.is_input_at.result c.is_input_at.ensures c.low_of-low.result c.high_of-high.result
    c.low_of-low.ensures c.high_of-high.ensures a.x 0 c.if-is_input_at.true refl in
    (omega (arith, g.0), (omega (arith, p.0), met_still a.k a.o g.0 p.0 p.1, p.2, omega (arith, e, p.3)))

pub returns-then-is_input_at : goal.returns-then-is_input_at
returns-then-is_input_at t c =
    let a = c.args in
    let p = c.requires in
    let g = going_on a.k a.node c.if-k-node.false in
    let row : ℕ → ℕ → ℕ = λ v o. row_from a.span.now.lower a.span.now.rails (descend a.span.now.diagram.words.now a.span.now.diagram.order.now a.span.now.bottom (a.k - 1) v a.x 0 o) in
    c.last_row.ensures ∙ ap (λ (v : ℕ). row v a.o) c.chosen-next.ensures
    ∙ input_row a.span.now.diagram.words.now a.span.now.diagram.order.now a.span.now.bottom a.span.now.lower a.span.now.rails a.k a.node a.o 0 g.0 g.1
    c.is_input_at.result c.is_input_at.ensures c.low_of-low.result c.high_of-high.result
    c.low_of-low.ensures c.high_of-high.ensures a.x 0 c.if-is_input_at.true refl

pub with_output-met-requires : goal.with_output-met-requires
with_output-met-requires t c =
    let a = c.args in
    let p = c.requires in
    let g = going_on a.k a.node c.if-k-node.false in
    met_few a.k a.o p.0 p.1

pub last_row-requires-2 : goal.last_row-requires-2
last_row-requires-2 t c =
    let a = c.args in
    let p = c.requires in
    let g = going_on a.k a.node c.if-k-node.false in
    let row : ℕ → ℕ → ℕ = λ v o. row_from a.span.now.lower a.span.now.rails (descend a.span.now.diagram.words.now a.span.now.diagram.order.now a.span.now.bottom (a.k - 1) v a.x 0 o) in
    let m = met_next a.k a.o c.low_of-low.result g.0 p.0 p.1 in
    let e = ap₂ row c.allowed-next.ensures c.with_output-met.ensures ∙ output_row a.span.now.diagram.words.now a.span.now.diagram.order.now a.span.now.bottom a.span.now.lower a.span.now.rails a.k a.node a.o 0 g.0 g.1
    c.is_input_at.result c.is_input_at.ensures c.low_of-low.result c.high_of-high.result
    c.low_of-low.ensures c.high_of-high.ensures a.x c.if-is_input_at.false in
    (omega (arith, g.0), (omega (arith, p.0), rw c.with_output-met.ensures m, p.2, omega (arith, e, p.3)))

pub returns : goal.returns
returns t c =
    let a = c.args in
    let p = c.requires in
    let g = going_on a.k a.node c.if-k-node.false in
    let row : ℕ → ℕ → ℕ = λ v o. row_from a.span.now.lower a.span.now.rails (descend a.span.now.diagram.words.now a.span.now.diagram.order.now a.span.now.bottom (a.k - 1) v a.x 0 o) in
    c.last_row-2.ensures ∙ ap₂ row c.allowed-next.ensures c.with_output-met.ensures
    ∙ output_row a.span.now.diagram.words.now a.span.now.diagram.order.now a.span.now.bottom a.span.now.lower a.span.now.rails a.k a.node a.o 0 g.0 g.1
    c.is_input_at.result c.is_input_at.ensures c.low_of-low.result c.high_of-high.result
    c.low_of-low.ensures c.high_of-high.ensures a.x c.if-is_input_at.false
