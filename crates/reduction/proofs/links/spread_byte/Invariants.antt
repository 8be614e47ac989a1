-- `reduction::links::spread_byte` meets its contract.
-- Assumes nothing.
use mathlib.Core.Path.{◌≡◌}
use Prim.Native.Nat.{◌*◌}
use Rattle.laws.specs.Lists.{puts_at}
use Rattle.reduction.specs.FirstBytes.{byte_at, Short}
use Rattle.reduction.proofs.links.spread_byte.Given as goal

abbrev pub invariant-loop-c : goal.invariant-loop-c
invariant-loop-c l = (l.bytes ≡ puts_at (l.x * 512) l.c (byte_at l.words l.size l.firsts l.x) l.initial.bytes) × Short l.c l.words l.size l.firsts
