-- `node_table::nodes::fill` meets its contract.
-- Assumes nothing.
use mathlib.Core.Path.{◌≡◌, sym, ◌∙◌, ap}
use native.Mathlib.Omega.{arith}
use Rattle.laws.specs.Lists.{puts}
use Rattle.laws.proofs.Puts.{puts_none, puts-next}
use Rattle.node_table.specs.Nodes.{node_in}
use Rattle.node_table.proofs.nodes.fill.Goals as goal

pub loop-i-init : goal.loop-i-init
loop-i-init c = sym (puts_none (node_in c.args.words.now) _)

pub loop-i-preserved : goal.loop-i-preserved
loop-i-preserved c =
    puts-next (node_in c.args.words.now) c.loop-i.i _ _ _ c.loop-i.invariant c.node_of.ensures

pub returns : goal.returns
returns c =
    let s = c.loop-i in
    let e : s.i ≡ c.args.count = omega arith in
    s.invariant ∙ ap (λ k. puts k (node_in c.args.words.now) c.args.nodes.now) e
