-- `cutting::rails` meets its contract.
-- Assumes nothing.
use Prim.Native.Nat.{suc}
use native.Mathlib.Nat.{pow-suc}
use native.Mathlib.Omega.{arith}
use Rattle.stored_spec.proofs.Promises.{rails-least}
use Rattle.cutting.proofs.plan.PlanSteps.{rails_more}
use Rattle.cutting.proofs.rails.Goals as goal

pub returns-then-w-lt2 : goal.returns-then-w-lt2
returns-then-w-lt2 c = let l = rails-least c.args.w 0 (omega arith) in omega arith

pub returns : goal.returns
returns c =
    let k = c.ilog2.result in
    let some = c.if-w-lt2.false in
    let twice = pow-suc 2 k in
    let few = rails_more c.args.w k (omega (arith, c.ilog2.ensures.power_le)) in
    let most = rails-least c.args.w (suc k) (omega (arith, twice, c.ilog2.ensures.next_power_gt)) in
    omega arith
