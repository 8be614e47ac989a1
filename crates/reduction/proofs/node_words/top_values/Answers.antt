-- `reduction::node_words::top_values` meets its contract.
-- Assumes nothing.
use mathlib.Core.Path.{sym}
use Prim.Native.Nat.{◌*◌}
use lib.ListN.{get_or}
use Rattle.laws.proofs.Puts.{puts_none, puts-next}
use Rattle.reduction.specs.Packed.{value_in}
use Rattle.reduction.proofs.node_words.top_values.Goals as goal

pub loop-c-init : goal.loop-c-init
loop-c-init c =
    let a = c.args in sym (puts_none (λ c. value_in (get_or a.planes.now.zero (c * a.size) 0) (get_or a.planes.now.one (c * a.size) 0) a.b) a.values.now)

pub loop-c-preserved : goal.loop-c-preserved
loop-c-preserved c =
    let l = c.loop-c in
    let a = c.args in puts-next (λ c. value_in (get_or a.planes.now.zero (c * a.size) 0) (get_or a.planes.now.one (c * a.size) 0) a.b) l.c
    a.values.now l.values _ l.invariant c.value_in.ensures
