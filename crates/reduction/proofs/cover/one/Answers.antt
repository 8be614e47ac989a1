-- `reduction::cover::one` meets its contract.
-- Assumes nothing.
use mathlib.Core.Path.{◌≡◌, ◌∙◌}
use Prim.Native.Nat.{ℕ, ◌≤◌}
use native.Mathlib.Omega.{arith}
use lib.Dec.{eqb}
use Rattle.laws.specs.Bits.{flag}
use Rattle.laws.proofs.Cases.{cond-each}
use Rattle.reduction.proofs.StdSteps.{byte-flag}
use Rattle.reduction.proofs.cover.one.Goals as goal

pub returns : goal.returns
returns c =
    let e : c.from.result ≡ flag (eqb c.args.x 1) = c.from.ensures ∙ byte-flag (eqb c.args.x 1) in
    (e, rw e (cond-each (λ (n : ℕ). n ≤ 1) (eqb c.args.x 1) (λ _. omega arith) (λ _. omega arith)))
