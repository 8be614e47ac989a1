-- `Walk::start` has read no record.
-- Assumes nothing.
use Rattle.stored.proofs.Walks.{none_begun}
use Rattle.stored.proofs.walk.Walk.start.Goals as goal

pub returns : goal.returns
returns c = none_begun
