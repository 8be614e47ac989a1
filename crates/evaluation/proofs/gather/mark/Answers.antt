-- `evaluation::gather::mark` adds a rail word to the set.
-- Assumes nothing.
use mathlib.Core.Path.{◌∙◌, ap}
use Prim.Native.Nat.{ℕ, ◌/◌, ◌%◌, ◌^◌, ◌<◌}
use native.Mathlib.Nat.{mod-lt, one-mul}
use native.Mathlib.Omega.{arith}
use lib.Bits.{bit_or}
use lib.ListN.{get_or, set}
use lib.Pow.{shl_exact}
use Rattle.evaluation_spec.specs.RailSets.{with_rail}
use Rattle.evaluation.proofs.gather.mark.Goals as goal

pub returns : goal.returns
unfolding with_rail
returns c =
    let a = c.args in
    let h : a.r % 64 < 64 = mod-lt a.r (omega arith) in
    let e = shl_exact {a = 1} 1 (a.r % 64) 64 (omega arith) (omega (arith, h)) ∙ one-mul (2 ^ (a.r % 64)) in
    ap (λ (x : ℕ). set a.set.now (a.r / 64) (bit_or (get_or a.set.now (a.r / 64) 0) x)) e
