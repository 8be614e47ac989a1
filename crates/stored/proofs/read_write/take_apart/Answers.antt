-- `take_apart` reads each record.
-- Assumes nothing.
use mathlib.Core.Path.{◌≡◌, refl, sym}
use native.Mathlib.Omega.{arith}
use Rattle.laws.proofs.Puts.{puts_none, puts-next}
use Rattle.stored_spec.specs.StoredForm.{record_count}
use Rattle.stored_spec.specs.ReadWrite.{record_at}
use Rattle.stored.proofs.read_write.RecordArrays.{taken_apart}
use Rattle.stored.proofs.read_write.take_apart.Goals as goal

pub loop-i-init : goal.loop-i-init
loop-i-init c = sym (puts_none (record_at c.args.bytes.now) _)

pub loop-i-preserved : goal.loop-i-preserved
unfolding record_at
loop-i-preserved c = puts-next (record_at c.args.bytes.now) c.loop-i.i _ _ _ c.loop-i.invariant refl

pub returns : goal.returns
returns c =
    let R = c.args.bytes.now in
    let e : c.loop-i.i ≡ record_count R = omega arith in
    taken_apart R (record_count R) c.loop-i.records refl (rw e at c.loop-i.invariant)
