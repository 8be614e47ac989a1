-- `load_byte` stores one byte of each record of a kind.
-- Assumes nothing.
use mathlib.Core.Path.{◌≡◌, sym}
use Prim.Native.Nat.{◌/◌}
use native.Mathlib.Omega.{arith}
use lib.ListN.{length}
use Rattle.laws.proofs.Puts.{puts_none, puts-next}
use Rattle.sheet.specs.Planes.{kind_byte}
use Rattle.sheet.proofs.records.Sheet.load_byte.Goals as goal

pub loop-r-init : goal.loop-r-init
loop-r-init c =
    let a = c.args in
    sym (puts_none (kind_byte a.self.now.bytes.now a.kind a.at) a.out.now)

pub loop-r-preserved : goal.loop-r-preserved
unfolding kind_byte
loop-r-preserved c =
    let l = c.loop-r in
    let a = c.args in
    puts-next (kind_byte a.self.now.bytes.now a.kind a.at) l.r a.out.now l.out _ l.invariant c.of_kind.ensures

pub returns : goal.returns
returns c =
    let e : c.loop-r.r ≡ length c.args.self.now.bytes.now / 8 = omega arith in
    rw e at c.loop-r.invariant
