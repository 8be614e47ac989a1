-- `any_hit` tests the records of a sheet, loaded into arrays.
-- Assumes nothing.
use Rattle.sheet.proofs.pairs.LoopSteps.{any-hit_of}
use Rattle.sheet.proofs.pairs.any_hit.Goals as goal

pub returns : goal.returns
returns c =
    any-hit_of c.args.sheet.now.bytes.now c.args.sheet.now.short c.load.ensures c.load-2.ensures c.add_kinds.ensures.masks_after c.add_kinds.ensures.values_after
    c.load-3.ensures c.load-4.ensures (rw c.count.ensures.0 at c.hit_among.ensures)
