-- `reduction::cover::lower_by_clique` meets its contract.
-- Assumes nothing.
use mathlib.Core.Path.{◌≡◌, ap}
use Prim.Native.Nat.{ℕ, ◌*◌, ◌≤◌}
use native.Mathlib.Nat.{mul-le-mul_right}
use native.Mathlib.Omega.{arith}
use Rattle.reduction.proofs.cover.CliqueLeaves.{tallied, tally_none, tally_few, tally_next, tally_lowers}
use Rattle.reduction.proofs.cover.lower_by_clique.Goals as goal

pub loop-i-init : goal.loop-i-init
loop-i-init c =
    let a = c.args in
    tally_none a.w a.link.now a.members.now c.requires.0

pub add_line-requires : goal.add_line-requires
add_line-requires c =
    let l = c.loop-i in
    let a = c.args in
    let p = c.requires in
    let u = c.from in
    let h : u.result ≤ 511 = omega (arith, u.ensures, p.2 l.i (omega arith)) in
    (p.0, omega (arith, p.0, mul-le-mul_right a.w h), tally_few a.w a.link.now a.members.now p.0 l.i l.tally l.invariant (omega arith))

pub loop-i-preserved : goal.loop-i-preserved
loop-i-preserved c =
    let l = c.loop-i in
    let a = c.args in
    let p = c.requires in
    let u = ap (λ (x : ℕ). x * a.w) c.from.ensures in
    tally_next a.w a.link.now a.members.now p.0 l.i _ l.tally _ u l.invariant c.add_line.ensures

pub returns : goal.returns
returns c =
    let l = c.loop-i in
    let a = c.args in
    let p = c.requires in
    let e : l.i ≡ a.count = omega arith in
    let all : l.tally ≡ tallied a.w a.link.now a.members.now a.count = rw e at l.invariant in
    tally_lowers a.w a.link.now a.members.now p.0 a.count a.keys.now l.tally _ all c.lower.ensures
