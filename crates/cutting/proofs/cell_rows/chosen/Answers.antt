-- `cutting::cell_rows::chosen` meets its contract.
-- Assumes nothing.
use mathlib.Core.Path.{◌≡◌, sym, ◌∙◌, ap}
use Prim.Native.Nat.{ℕ, ◌%◌}
use native.Mathlib.Nat.{div-one}
use borrow.Author.Tests.{eq-eqb, ne_eqb}
use Rattle.laws.specs.Bits.{has, bit}
use Rattle.laws.proofs.Cases.{cond_yes, cond_no}
use Rattle.cutting.proofs.cell_rows.chosen.Goals as goal

lowest : (x : ℕ) → bit x 0 ≡ x % 2
lowest x = ap (λ (y : ℕ). y % 2) (div-one x)

pub returns-then-x-eq1 : goal.returns-then-x-eq1
returns-then-x-eq1 c = let x = c.args.x in sym (cond_yes (has x 0) _ _ (eq-eqb (bit x 0) 1 (lowest x ∙ c.if-x-eq1.true)))

pub returns : goal.returns
returns c = let x = c.args.x in sym (cond_no (has x 0) _ _ (ne_eqb (bit x 0) 1 (λ e. c.if-x-eq1.false (sym (lowest x) ∙ e))))
