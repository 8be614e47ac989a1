-- `reduction::node_words::store_node` meets its contract.
-- Assumes nothing.
use mathlib.Core.Path.{◌≡◌, ap₂}
use Prim.Native.Nat.{ℕ, suc, ◌+◌, ◌*◌}
use lib.ListN.{set}
use native.Mathlib.Omega.{arith}
use Rattle.reduction.proofs.node_words.store_node.Goals as goal

pub returns : goal.returns
returns c =
    let a = c.args in
    let p : a.i * 3 + 1 ≡ suc (a.i * 3) = omega arith in
    let q : a.i * 3 + 2 ≡ suc (suc (a.i * 3)) = omega arith in
    ap₂ (λ (m n : ℕ). set (set (set a.words.now (a.i * 3) a.node.height) m a.node.low) n a.node.high) p q
