-- `sheet::lines::number` meets its contract.
-- Assumes nothing.
use mathlib.Core.Path.{◌≡◌, sym, ◌∙◌}
use Prim.Native.Nat.{◌-◌, ◌%◌}
use native.Mathlib.Nat.{mod-eq_of_lt}
use native.Mathlib.Omega.{arith}
use borrow.Author.Tests.{lt-ltb, le-ltb}
use lib.Dec.{ltb}
use Rattle.laws.proofs.Cases.{by_less, cond_yes, cond_no}
use Rattle.sheet.proofs.lines.number.Goals as goal

pub returns : goal.returns
returns c =
    let v = c.args.v in
    by_less v 128 (λ l. mod-eq_of_lt l ∙ sym (cond_yes (ltb v 128) v (v - 128) (lt-ltb v 128 l)))
    (λ l. let low : v % 128 ≡ v - 128 = omega (arith, c.ranges.v) in low ∙ sym (cond_no (ltb v 128) v (v - 128) (le-ltb v 128 l)))
