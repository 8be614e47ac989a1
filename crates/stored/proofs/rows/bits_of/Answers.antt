-- `bits_of` puts the rows over one another.
-- Assumes nothing.
use mathlib.Core.Path.{◌≡◌, refl, ap, ◌∙◌}
use Prim.Native.Nat.{◌/◌}
use native.Mathlib.Omega.{arith}
use lib.ListN.{length}
use Rattle.laws.specs.Bits.{marks}
use Rattle.laws.proofs.Marks.{marks-step}
use Rattle.stored_spec.specs.RowBytes.{row_value}
use Rattle.stored.proofs.rows.bits_of.Goals as goal

pub loop-i-init : goal.loop-i-init
unfolding marks
loop-i-init g c = refl

pub loop-i-preserved : goal.loop-i-preserved
loop-i-preserved g c =
    let l = c.loop-i in
    marks-step (row_value g.row.SIZE c.args.rows.now) l.i l.seen _ l.invariant c.row_at-seen.ensures

pub returns : goal.returns
returns g c =
    let R = c.args.rows.now in
    let e : c.loop-i.i ≡ length R / g.row.SIZE = omega arith in
    c.loop-i.invariant ∙ ap (marks 0 (row_value g.row.SIZE R)) e
