-- `unread::line_place` meets its contract.
-- Assumes nothing.
use mathlib.Core.Path.{◌≡◌}
use Prim.Native.Nat.{◌≤◌}
use lib.ListN.{length, drop}
use Rattle.call_text.specs.Wanted.{lines_after}
use Rattle.call_text.proofs.unread.line_place.Given as goal

abbrev pub invariant-loop-i : goal.invariant-loop-i
invariant-loop-i l = (drop l.at l.text ≡ lines_after l.i l.text) × (l.at ≤ length l.text) × (l.i ≤ l.n)
