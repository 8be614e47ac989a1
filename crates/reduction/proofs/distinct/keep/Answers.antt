-- `reduction::distinct::keep` meets its contract.
-- Assumes nothing.
use mathlib.Core.Path.{◌≡◌, ap}
use Prim.Native.Nat.{ℕ, ◌+◌}
use mathlib.Core.Bool.{true, false}
use lib.Dec.{eqb}
use borrow.Author.Tests.{eq-eqb, ne_eqb}
use Rattle.reduction.proofs.distinct.keep.Goals as goal

pub returns-then-c-count : goal.returns-then-c-count
returns-then-c-count c =
    let a = c.args in
    let e : eqb a.c a.count ≡ true = eq-eqb a.c a.count c.if-c-count.true in
    record {
      value = rw e (ap (λ (x : ℕ). x + 1) c.if-c-count.true);
      keys_after = rw e;
      kept_after = rw e;
    }

pub returns : goal.returns
returns c =
    let a = c.args in
    let e : eqb a.c a.count ≡ false = ne_eqb a.c a.count c.if-c-count.false in
    record {
      value = rw e;
      keys_after = rw e;
      kept_after = rw e;
    }
