-- `panel_calls::state_bytes::words_in` meets its contract.
-- Assumes nothing.
use mathlib.Core.Path.{◌≡◌, refl, sym, ◌∙◌}
use Prim.Native.Nat.{◌+◌, ◌*◌}
use native.Mathlib.Omega.{arith}
use Rattle.laws.proofs.Puts.{puts_none, puts-next, puts_whole}
use Rattle.panel_calls.specs.StateBytes.{pair_at}
use Rattle.panel_calls.proofs.state_bytes.words_in.Goals as goal

pub loop-i-init : goal.loop-i-init
loop-i-init c = let a = c.args in sym (puts_none (λ k. pair_at a.bytes.now (5 + 2 * k)) _)

pub loop-i-preserved : goal.loop-i-preserved
loop-i-preserved c =
    let l = c.loop-i in
    let a = c.args in
    let pair : c.from_le_bytes.result ≡ pair_at a.bytes.now (5 + 2 * l.i) = omega (arith, c.from_le_bytes.ensures) in
    puts-next (λ k. pair_at a.bytes.now (5 + 2 * k)) l.i _ l.words _ l.invariant pair

pub returns : goal.returns
returns c =
    let l = c.loop-i in
    let a = c.args in
    let e : l.i ≡ 8 = omega arith in
    rw e at l.invariant ∙ puts_whole (λ k. pair_at a.bytes.now (5 + 2 * k)) 8 _ refl
