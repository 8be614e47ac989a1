-- `call_text::lines::word_place` meets its contract.
-- Assumes nothing.
use native.Mathlib.Omega.{arith}
use Rattle.call_text.proofs.CallLaws.{place_even, place_odd}
use Rattle.call_text.proofs.lines.word_place.Goals as goal

pub returns-then-i-eq0 : goal.returns-then-i-eq0
returns-then-i-eq0 c = (place_even c.args.i c.if-i-eq0.true, omega arith)

pub returns : goal.returns
returns c = (place_odd c.args.i c.if-i-eq0.false, omega arith)
