-- `replay::running::output_at` meets its contract.
-- Assumes nothing.
use mathlib.Core.Path.{sym}
use Prim.Native.Nat.{◌*◌}
use lib.Dec.{ltb}
use Rattle.laws.proofs.Cases.{cond_yes, cond_no}
use borrow.Author.Tests.{lt-ltb, le-ltb}
use native.Mathlib.Omega.{arith}
use Rattle.replay.proofs.running.output_at.Goals as goal

pub returns-then-i-from : goal.returns-then-i-from
returns-then-i-from c =
    let a = c.args in
    sym (cond_yes (ltb a.i (8 * a.count)) _ _ (lt-ltb a.i (8 * a.count) (omega arith)))

pub returns : goal.returns
returns c =
    let a = c.args in
    sym (cond_no (ltb a.i (8 * a.count)) _ _ (le-ltb a.i (8 * a.count) (omega arith)))
