-- `reduction::packed::lines_mask` meets its contract.
-- Assumes nothing.
use mathlib.Core.Path.{◌≡◌, ap}
use Prim.Native.Nat.{ℕ, ◌-◌, ◌*◌, ◌%◌, ◌^◌, ◌≤◌}
use lib.Pow.{pow_mono}
use Rattle.reduction.specs.Packed.{lines_mask}
use native.Mathlib.Omega.{arith}
use Rattle.reduction.proofs.packed.lines_mask.Goals as goal

pub returns : goal.returns
unfolding lines_mask
returns c =
    let h : 2 ^ c.args.b ≤ 256 = pow_mono c.requires in
    let e : 1 * 2 ^ c.args.b % 2 ^ 64 - 1 ≡ 2 ^ c.args.b - 1 = omega arith in
    ap (λ (x : ℕ). x * 72340172838076673) e
