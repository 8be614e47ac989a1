-- `evaluation::gather::read_run` reads rows that stand one after another, where the rail words below are few.
-- Assumes nothing.
use mathlib.Core.Path.{◌≡◌}
use Prim.Native.Nat.{◌<◌}
use native.Mathlib.Omega.{arith}
use lib.Bits.{bit_and, and_le_r}
use Rattle.evaluation.specs.Agreeing.{gathered_of}
use Rattle.evaluation.proofs.gather.FewRails.{few-none, run-next}
use Rattle.evaluation.proofs.gather.read_run.Goals as goal

pub loop-j-init : goal.loop-j-init
loop-j-init c = λ s. few-none _ _ s

pub overflow_shl-rails : goal.overflow_shl-rails
overflow_shl-rails c =
    let a = c.args in
    omega (arith, and_le_r c.from.result a.p.now.low, c.requires.1)

pub loop-j-preserved : goal.loop-j-preserved
loop-j-preserved c =
    let l = c.loop-j in
    let a = c.args in
    let few : bit_and c.from.result a.p.now.low < 64 = omega (arith, and_le_r c.from.result a.p.now.low, c.requires.1) in λ s. rw c.with-g.ensures (run-next a.rows.now a.first a.p.now.low l.j (gathered_of a.seen s) s l.rails c.row_at-x.ensures c.from.ensures few (l.invariant s))

pub returns : goal.returns
returns c =
    let l = c.loop-j in
    let e : l.j ≡ c.args.p.now.count = omega (arith, c.loop-j-test.false) in
    rw e at l.invariant
