-- `cutting::cell_rows::allowed` meets its contract.
-- Assumes nothing.
use mathlib.Core.Path.{sym}
use borrow.Author.Tests.{eq-eqb, ne_eqb}
use lib.Dec.{eqb}
use Rattle.laws.proofs.Cases.{cond_yes, cond_no}
use Rattle.cutting.proofs.cell_rows.allowed.Goals as goal

pub returns-then-low-eq0 : goal.returns-then-low-eq0
returns-then-low-eq0 c = let l = c.args.low in sym (cond_yes (eqb l 0) _ _ (eq-eqb l 0 c.if-low-eq0.true))

pub returns : goal.returns
returns c = let l = c.args.low in sym (cond_no (eqb l 0) _ _ (ne_eqb l 0 c.if-low-eq0.false))
