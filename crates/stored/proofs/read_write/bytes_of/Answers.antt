-- `bytes_of` stores each record.
-- Assumes nothing.
use mathlib.Core.Path.{◌≡◌, refl, ◌∙◌}
use lib.ListN.{get_or}
use native.Mathlib.Omega.{arith}
use Rattle.stored_spec.specs.ReadWrite.{no_record}
use Rattle.stored.specs.RecordArrays.{records_of}
use Rattle.stored.proofs.read_write.RecordArrays.{bytes_next}
use Rattle.stored.proofs.CellPlaces.{from_cut}
use Rattle.stored.proofs.read_write.bytes_of.Goals as goal

pub loop-i-init : goal.loop-i-init
loop-i-init c = (omega arith, refl)

pub loop-i-preserved : goal.loop-i-preserved
loop-i-preserved c =
    let l = c.loop-i in
    (omega arith, bytes_next (λ k. get_or c.args.from.records k no_record) l.i _ _ _ l.invariant.1 (c.from.ensures ∙ from_cut _))

pub returns : goal.returns
unfolding records_of
returns c =
    let l = c.loop-i in
    let e : l.i ≡ c.args.from.count = omega arith in
    rw e at l.invariant.1
