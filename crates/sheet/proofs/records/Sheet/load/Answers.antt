-- `load` stores two bytes of each record as a number.
-- Assumes nothing.
use mathlib.Core.Path.{◌≡◌}
use Prim.Native.Nat.{◌/◌}
use native.Mathlib.Omega.{arith}
use borrow.Author.Rules.{rules}
use lib.ListN.{length}
use Rattle.laws.specs.Lists.{puts}
use Rattle.laws.proofs.Puts.{puts-next}
use Rattle.sheet.specs.Pairs.{pair_of}
use Rattle.sheet.proofs.records.Sheet.load.Goals as goal

pub loop-r-init : goal.loop-r-init
unfolding puts
loop-r-init c = search rules

pub loop-r-preserved : goal.loop-r-preserved
loop-r-preserved c =
    let a = c.args in
    puts-next (pair_of a.self.now.bytes.now a.lo a.hi) c.loop-r.r a.out.now c.loop-r.out _ c.loop-r.invariant c.pair.ensures

pub returns : goal.returns
returns c =
    let e : c.loop-r.r ≡ length c.args.self.now.bytes.now / 8 = omega arith in
    rw e at c.loop-r.invariant
