-- `reduction::node_words::store_nodes` meets its contract.
-- Assumes nothing.
use mathlib.Core.Path.{sym, ◌∙◌}
use mathlib.Core.Bool.{Bool, true, false, cond}
use Prim.Native.Nat.{ℕ, ◌+◌, ◌*◌, ◌<◌}
use native.Mathlib.Omega.{arith}
use Rattle.reduction_spec.proofs.NodeWords.{node-next}
use Rattle.reduction.specs.Lowering.{node_over}
use Rattle.reduction.proofs.node_words.store_nodes.Goals as goal

-- the candidates of column c are among those of w columns
below-more : (input : Bool) (c w q : ℕ) → c < w → q < cond input (c * 2 + 2) (c + 1) → q < cond input (w * 2) w
below-more true c w q l h = omega arith
below-more false c w q l h = omega arith

pub loop-c-preserved : goal.loop-c-preserved
loop-c-preserved c =
    let l = c.loop-c in
    let a = c.args in
    let h = a.here.now in
    let x = c.node_over-node.result in
    c.store_node.ensures
    ∙ node-next (node_over h.input (h.a + h.b + 1) c.first_node-base.result a.values.now a.below.now) h.at l.c a.words.now l.words x.height x.low x.high l.invariant (sym c.node_over-node.ensures)
