-- `reduction::links::narrow_all` meets its contract.
-- Assumes nothing.
use Rattle.reduction.specs.FirstBytes.{Flags, agree_to}
use Rattle.reduction.proofs.links.narrow_all.Given as goal

abbrev pub invariant-loop-x : goal.invariant-loop-x
invariant-loop-x l = Flags l.w (agree_to l.bytes.zero l.bytes.one l.c l.x) l.row
