-- `cutting::cell_rows::heights` meets its contract.
-- Assumes nothing.
use mathlib.Core.Path.{sym, ◌∙◌}
use Prim.Native.Nat.{◌-◌}
use native.Mathlib.Omega.{arith}
use borrow.Author.Tests.{le-leb, lt-leb}
use lib.Dec.{leb}
use Rattle.laws.proofs.Cases.{cond_yes, cond_no}
use Rattle.cutting.proofs.cell_rows.heights.Goals as goal

pub returns-then-top-le20 : goal.returns-then-top-le20
returns-then-top-le20 c =
    let a = c.args in
    (c.saturating_sub.ensures ∙ sym (cond_yes (leb a.top 20) (a.top - a.bottom) 0 (le-leb a.top 20 c.if-top-le20.true)), omega (arith, c.saturating_sub.ensures))

pub returns : goal.returns
returns c =
    let a = c.args in
    (sym (cond_no (leb a.top 20) (a.top - a.bottom) 0 (lt-leb a.top 20 c.if-top-le20.false)), omega arith)
