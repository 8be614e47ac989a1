-- `reduction::links::link_rows` meets its contract.
-- Assumes nothing.
use mathlib.Core.Path.{◌≡◌, ◌∙◌}
use mathlib.Core.Bool.{Bool}
use Prim.Native.Nat.{ℕ}
use Rattle.laws.specs.Tests.{any}
use Rattle.laws.specs.Bits.{flag}
use Rattle.laws.proofs.Puts.{puts_at-rect}
use Rattle.laws.proofs.Tests.{any_step}
use Rattle.reduction.specs.Distinct.{linked_words}
use native.Mathlib.Omega.{arith}
use Rattle.reduction.proofs.links.link_rows.Goals as goal

pub loop-c-preserved : goal.loop-c-preserved
loop-c-preserved c =
    let l = c.loop-c in
    let a = c.args in
    let f : ℕ → ℕ → Bool = linked_words a.planes.now.zero a.planes.now.one a.size a.firsts.now in (
      any_step (λ k. any a.w (f k)) l.c l.invariant.0 c.link_row-found.ensures.value,
      c.link_row-found.ensures.link_after ∙ puts_at-rect (λ k d. flag (f k d)) a.w l.c a.link.now l.link l.invariant.1,
    )

pub returns : goal.returns
returns c =
    let l = c.loop-c in
    let e : l.c ≡ c.args.w = omega arith in
    record {
      value = rw e at l.invariant.0;
      link_after = rw e at l.invariant.1;
    }
