-- `sheet::lines::list_of` meets its contract.
-- Assumes nothing.
use mathlib.Core.Bool.{Bool, true, false, beq, cond}
use lib.Dec.{leb, ltb}
use lib.Seq.{sets}
use mathlib.Core.Path.{refl, ◌≡◌, sym, subst, ap, ◌∙◌}
use mathlib.Core.List.{List, [], ◌∷◌, ◌++◌}
use Prim.Native.Nat.{ℕ, ◌-◌}
use native.Mathlib.Omega.{arith}
use lib.ListN.{length, get_or}
use Rattle.sheet.specs.Planes.{listed}
use Rattle.sheet_spec.specs.Job.{inputs_to, outputs_to}
use Rattle.std.proofs.lemmas.List.{length_push}
use Rattle.sheet.proofs.lines.OrderLists.{visited, listed_more, listed_same, listed_here, not_listed_here}
use Rattle.sheet.proofs.lines.list_of.Goals as goal

nothing : (outputs : Bool) (t : ℕ) (order : List ℕ) → listed outputs t order 0 ≡ []
unfolding inputs_to outputs_to
nothing true t order = refl
nothing false t order = refl

pub loop-v-init : goal.loop-v-init
loop-v-init c =
    let a = c.args in
    let order = a.job.now.order.now in
    let whole : c.into_iter-v-iterator.result.iter.rest.now ≡ order =
    ap (λ i. i.iter.rest.now) c.into_iter-v-iterator.ensures.into_iter_gives ∙ ap (λ i. i.rest.now) c.rev-v-items.ensures.source ∙ c.iter.ensures.rest in (
      record { long = omega (arith, ap length whole); same = λ k h. ap (λ (s : List ℕ). get_or s k 0) whole },
      record { few = omega arith; counted = rw (nothing a.outputs (length order) order) refl; stored = rw (nothing a.outputs (length order) order) refl },
    )

pub loop-v-preserved-then-v-outputs : goal.loop-v-preserved-then-v-outputs
loop-v-preserved-then-v-outputs c =
    let l = c.loop-v in
    let a = c.args in
    let s = a.job.now.order.now in
    let t = length s in
    let f : ℕ → List ℕ = listed a.outputs t s in
    let h = length l.yielded in
    let step = visited s c.next.new.self.iter.rest.now c.in-Some.v.now h (rw c.in-Some.ensures.steps at l.invariant.0) in
    rw (length_push l.yielded c.in-Some.v) (
      step.1,
      listed_more f a.list.now l.list l.count h l.invariant.1 _
          (listed_here t s h a.outputs (subst (λ (k : ℕ). beq (leb 128 k) a.outputs ≡ true) step.0 c.if-v-outputs.true)
          ∙ ap (λ (k : ℕ). f h ++ (k ∷ [])) (sym (c.number.ensures ∙ ap (λ (k : ℕ). cond (ltb k 128) k (k - 128)) step.0))),
    )

pub loop-v-preserved : goal.loop-v-preserved
loop-v-preserved c =
    let l = c.loop-v in
    let a = c.args in
    let s = a.job.now.order.now in
    let t = length s in
    let h = length l.yielded in
    let step = visited s c.next.new.self.iter.rest.now c.in-Some.v.now h (rw c.in-Some.ensures.steps at l.invariant.0) in
    rw (length_push l.yielded c.in-Some.v) (
      step.1,
      listed_same (listed a.outputs t s) a.list.now l.list l.count h l.invariant.1
          (not_listed_here t s h a.outputs (subst (λ (k : ℕ). beq (leb 128 k) a.outputs ≡ false) step.0 c.if-v-outputs.false)),
    )

pub returns : goal.returns
returns c =
    let l = c.loop-v in
    let s = c.args.job.now.order.now in
    let all : length l.yielded ≡ length s = omega (arith, l.invariant.0.long, c.in-None.ensures.steps.0) in
    l.invariant.1.stored ∙ ap (λ (h : ℕ). sets c.args.list.now 0 (listed c.args.outputs (length s) s h)) all
