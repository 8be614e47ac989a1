-- `reduction::links::store_row` meets its contract.
-- Assumes nothing.
use mathlib.Core.Path.{◌≡◌, refl, sym}
use Prim.Native.Nat.{ℕ}
use lib.ListN.{get_or}
use Rattle.laws.proofs.Puts.{puts_at-none, puts_at-next}
use Rattle.laws.specs.Bits.{marks}
use Rattle.laws.proofs.Marks.{marks-step}
use native.Mathlib.Omega.{arith}
use Rattle.reduction.proofs.links.store_row.Goals as goal

pub loop-d-init : goal.loop-d-init
unfolding marks
loop-d-init c =
    let a = c.args in
    (refl, sym (puts_at-none (λ d. get_or a.row.now d 0) a.from a.link.now))

pub loop-d-preserved : goal.loop-d-preserved
loop-d-preserved c =
    let l = c.loop-d in
    let a = c.args in
    let f : ℕ → ℕ = λ d. get_or a.row.now d 0 in
    (marks-step f l.d l.left _ l.invariant.0 refl, puts_at-next f a.from l.d a.link.now l.link _ l.invariant.1 refl)

pub returns : goal.returns
returns c =
    let l = c.loop-d in
    let e : l.d ≡ c.args.w = omega arith in
    record {
      value = rw e at l.invariant.0;
      link_after = rw e at l.invariant.1;
    }
