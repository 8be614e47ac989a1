-- `sheet::lines::write_lines` meets its contract.
-- Assumes nothing.
use mathlib.Core.Path.{ap, ap₂, ◌∙◌, ◌≡◌}
use Prim.Native.Nat.{◌*◌, ◌%◌, ℕ, ◌^◌}
use native.Mathlib.Nat.{mod-lt}
use native.Mathlib.Omega.{arith}
use lib.Pow.{pow_mono}
use lib.ListN.{get_or}
use Rattle.laws.specs.Lists.{puts_at}
use Rattle.laws.proofs.Lists.{row_end}
use Rattle.laws.proofs.Puts.{puts_at-rect}
use Rattle.sheet.proofs.Shifts.{shifted}
use Rattle.sheet.specs.Planes.{line_value, line_at}
use Rattle.sheet.proofs.lines.write_lines.Goals as goal

pub write_line-requires : goal.write_line-requires
write_line-requires c =
    let l = c.loop-k in
    let n = c.args.job.now.n in
    let e = shifted n 18446744073709551616 (omega arith) (omega arith) in
    let top = pow_mono {i = n} {j = 12} (omega arith) in
    (omega (arith, e), mod-lt c.from.result (omega arith), omega (arith, e, row_end l.k 8 (2 ^ n) (omega arith), ap (λ (x : ℕ). l.k * x) e))

pub loop-k-preserved : goal.loop-k-preserved
unfolding line_at
loop-k-preserved c =
    let l = c.loop-k in
    let a = c.args in
    let n = a.job.now.n in
    let e = shifted n 18446744073709551616 (omega arith) (omega arith) in
    let z = a.planes.now.zeros in
    let y = a.planes.now.ones in c.write_line.ensures
    ∙ ap₂ (λ (w v : ℕ). puts_at (l.k * w) w (λ x. line_value (get_or z x 0) (get_or y x 0) (v % 8)) l.table) e c.from.ensures
    ∙ puts_at-rect (line_at z y a.list.now) (2 ^ n) l.k a.table.now l.table l.invariant

pub returns : goal.returns
returns c =
    let l = c.loop-k in
    let a = c.args in
    let e : l.k ≡ a.job.now.m = omega arith in
    rw e at l.invariant
