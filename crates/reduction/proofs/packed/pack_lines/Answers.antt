-- `reduction::packed::pack_lines` meets its contract.
-- Assumes nothing.
use mathlib.Core.Path.{◌≡◌, ◌∙◌, ap₂}
use mathlib.Core.Bool.{cond}
use Prim.Native.Nat.{ℕ, ◌+◌, ◌*◌, ◌%◌, ◌^◌, ◌<◌, ◌≤◌}
use lib.Dec.{eqb}
use lib.Bits.{bit_or}
use lib.Pow.{pow_mono, pow-lt}
use lib.ListN.{get_or}
use Rattle.laws.specs.Lists.{puts}
use Rattle.laws.proofs.Lists.{row_end}
use Rattle.laws.proofs.Marks.{marks-next, marks_start}
use native.Mathlib.Omega.{arith}
use Rattle.reduction.proofs.packed.pack_lines.Goals as goal

pub loop-k-init : goal.loop-k-init
loop-k-init c =
    let a = c.args in
    marks_start (λ x k. cond (eqb (get_or a.table.now (k * 2 ^ a.n + x) 0) a.v) (2 ^ k) 0) a.places.now (2 ^ a.n)

pub pack_line-requires : goal.pack_line-requires
pack_line-requires c =
    let l = c.loop-k in
    let few : 2 ^ c.args.n ≤ 4096 = pow_mono c.requires.0 in
    let w : 1 * 2 ^ c.args.n % 18446744073709551616 ≡ 2 ^ c.args.n = omega arith in
    (omega arith, rw w (omega (arith, row_end l.k 8 (2 ^ c.args.n) (omega arith))))

pub loop-k-preserved : goal.loop-k-preserved
loop-k-preserved c =
    let l = c.loop-k in
    let a = c.args in
    let few : 2 ^ c.args.n ≤ 4096 = pow_mono c.requires.0 in
    let w : 1 * 2 ^ c.args.n % 18446744073709551616 ≡ 2 ^ c.args.n = omega arith in
    let small : 2 ^ l.k < 256 = pow-lt {i = l.k} {j = 8} (omega arith) in
    let b : 1 * 2 ^ l.k % 256 ≡ 2 ^ l.k = omega arith in c.pack_line.ensures
    ∙ ap₂ (λ (w b : ℕ). puts w (λ x. bit_or (get_or l.places x 0) (cond (eqb (get_or a.table.now (l.k * w + x) 0) a.v) b 0)) l.places) w b
    ∙ marks-next (λ x k. cond (eqb (get_or a.table.now (k * 2 ^ a.n + x) 0) a.v) (2 ^ k) 0) a.places.now l.places (2 ^ a.n) l.k l.invariant
