-- `sheet::lines::list_of` meets its contract.
-- Assumes nothing.
use lib.ListN.{length}
use Rattle.sheet.specs.Planes.{listed}
use Rattle.sheet.proofs.lines.OrderLists.{Left, Listed}
use Rattle.sheet.proofs.lines.list_of.Given as goal

abbrev pub invariant-loop-v : goal.invariant-loop-v
invariant-loop-v l = Left l.job.order.now l.v-iterator.iter.rest.now (length l.yielded) × Listed (listed l.outputs (length l.job.order.now) l.job.order.now) l.initial.list l.list l.count (length l.yielded)
