-- `lists::list_each` ends: each job is read once.
-- Assumes nothing.
use Rattle.std.proofs.Common.{length}
use Rattle.listing.proofs.lists.list_each.Given as goal

abbrev pub decreases-loop-head : goal.decreases-loop-head
decreases-loop-head l = length l.rest
