-- `sheet::planes::added_at` meets its contract.
-- Assumes nothing.
use mathlib.Core.Path.{sym}
use borrow.Author.Tests.{eq-eqb, ne_eqb}
use lib.Bits.{bit_and}
use Rattle.laws.proofs.Cases.{cond_yes, cond_no}
use Rattle.sheet.specs.Planes.{added, agrees}
use Rattle.sheet.proofs.planes.added_at.Goals as goal

pub returns-then-i-k : goal.returns-then-i-k
unfolding added agrees
returns-then-i-k c = sym (cond_yes (agrees c.args.k c.args.v c.args.i) c.args.f 0 (eq-eqb (bit_and c.args.i c.args.k) c.args.v c.if-i-k.true))

pub returns : goal.returns
unfolding added agrees
returns c = sym (cond_no (agrees c.args.k c.args.v c.args.i) c.args.f 0 (ne_eqb (bit_and c.args.i c.args.k) c.args.v c.if-i-k.false))
