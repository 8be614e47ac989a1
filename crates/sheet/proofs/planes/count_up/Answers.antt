-- `sheet::planes::count_up` meets its contract.
-- Assumes nothing.
use mathlib.Core.Path.{sym, ◌≡◌, ◌∙◌, ap}
use mathlib.Core.List.{List}
use native.Mathlib.Nat.{mod-eq_of_lt}
use native.Mathlib.Omega.{arith}
use lib.ListN.{get_or, replicate, length-replicate}
use Prim.Native.Nat.{ℕ}
use Rattle.laws.specs.Lists.{puts}
use Rattle.laws.proofs.Puts.{puts_none, puts-next}
use Rattle.sheet.proofs.planes.PlaceBlocks.{counts_up}
use Rattle.sheet.proofs.planes.count_up.Goals as goal

pub loop-i-init : goal.loop-i-init
loop-i-init c = sym (puts_none (λ i. i) (replicate 256 0))

pub loop-i-preserved : goal.loop-i-preserved
loop-i-preserved c =
    let l = c.loop-i in
    puts-next (λ i. i) l.i (replicate 256 0) l.numbers _ l.invariant (mod-eq_of_lt (omega arith))

pub invariant_of-result : goal.invariant_of-result
invariant_of-result c =
    let l = c.loop-i in
    let e : l.i ≡ 256 = omega arith in
    let full : l.numbers ≡ puts 256 (λ i. i) (replicate 256 0) = rw e at l.invariant in
    record { up = λ i h. ap (λ (s : List ℕ). get_or s i 0) full ∙ counts_up (replicate 256 0) (length-replicate {A = ℕ} 256 0) i h }
