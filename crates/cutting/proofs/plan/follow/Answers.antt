-- `cutting::plan::follow` meets its contract.
-- Assumes nothing.
use Prim.Native.Nat.{ℕ}
use mathlib.Core.Path.{◌≡◌, sym, ◌∙◌, ap}
use native.Mathlib.Omega.{arith}
use lib.ListN.{replicate, get_or}
use Rattle.std.specs.Prelude.{Option}
use Rattle.cutting.specs.declared.choice.Way as declared
use Rattle.laws.specs.Lists.{puts}
use Rattle.laws.proofs.Puts.{puts_none, puts-next}
use Rattle.cutting.specs.Ways.{way_given, nexts_of}
use Rattle.cutting.specs.Plan.{cut_in, bytes21}
use Rattle.cutting.proofs.choice.WayLists.{nexts-read}
use Rattle.cutting.proofs.plan.PlanSteps.{cut-first, cut-next}
use Rattle.cutting.proofs.plan.follow.Goals as goal
use Rattle.cutting.proofs.plan.follow.Goals.{in-Some, in-None}

pub loop-i-init : goal.loop-i-init
loop-i-init c =
    let a = c.args in
    (omega arith, cut-first (nexts_of a.ways.now) a.t, sym (puts_none (cut_in (nexts_of a.ways.now) a.t) (replicate 21 0)))

pub loop-i-preserved : goal.loop-i-preserved
loop-i-preserved c =
    let a = c.args in
    let p = c.requires in
    let s = c.loop-i in
    let nx = nexts_of a.ways.now in
    let read = nexts-read a.ways.now c.from.result in
    let next : c.match-ways-from.cut ≡ get_or nx c.from.result 0 =
    elim c.match-ways-from.branch [
      | in-Some w ↦ w.cut-is ∙ ap (λ (x : Option declared.Way). (way_given x).next) (sym w.in-Some.is) ∙ sym read
      | in-None w ↦ w.cut-is ∙ ap (λ (x : Option declared.Way). (way_given x).next) (sym w.in-None.is) ∙ sym read
    ] in (
      omega (arith, next, p.2 c.from.result (omega (arith, c.from.ensures, s.invariant.0))),
      cut-next nx a.t s.i c.from.result _ (c.from.ensures ∙ s.invariant.1) next,
      puts-next (cut_in nx a.t) s.i _ _ _ s.invariant.2 s.invariant.1,
    )

pub returns : goal.returns
unfolding bytes21
returns c =
    let a = c.args in
    let f = cut_in (nexts_of a.ways.now) a.t in
    let s = c.loop-i in
    let e : s.i ≡ a.cells = omega arith in
    puts-next f a.cells _ _ _ (s.invariant.2 ∙ ap (λ (k : ℕ). puts k f (replicate 21 0)) e) (s.invariant.1 ∙ ap f e)
