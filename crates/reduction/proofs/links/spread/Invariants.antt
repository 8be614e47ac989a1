-- `reduction::links::spread` meets its contract.
-- Assumes nothing.
use Rattle.reduction.specs.FirstBytes.{Spread}
use Rattle.reduction.proofs.links.spread.Given as goal

abbrev pub invariant-loop-x : goal.invariant-loop-x
invariant-loop-x l = Spread l.w l.words l.size l.firsts l.x l.bytes
