-- `reduction::heights::candidate_count` meets its contract.
-- Assumes nothing.
use mathlib.Core.Path.{sym}
use Prim.Native.Nat.{◌*◌}
use Rattle.laws.proofs.Cases.{cond_yes}
use Rattle.reduction.proofs.heights.candidate_count.Goals as goal

pub returns-then-input : goal.returns-then-input
returns-then-input c = let a = c.args in sym (cond_yes a.input (a.w * 2) a.w c.if-input.true)
