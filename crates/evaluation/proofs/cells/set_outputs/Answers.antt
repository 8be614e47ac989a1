-- `evaluation::cells::set_outputs` sets the outputs of a cell.
-- Assumes nothing.
use mathlib.Core.Path.{◌≡◌, refl, sym, ◌∙◌, ap, ap₂}
use mathlib.Core.List.{List, [], ◌∷◌}
use Prim.Native.Nat.{ℕ, ◌+◌, ◌/◌, ◌^◌}
use native.Mathlib.Omega.{arith}
use lib.ListN.{length}
use Rattle.stored_spec.specs.StoredForm.{StoredCell, cell_at}
use Rattle.stored_spec.specs.Run.{set_outputs, outputs_after}
use Rattle.evaluation.specs.Answer.{told_by}
use Rattle.evaluation.specs.BegunCell.{ended_by}
use Rattle.evaluation.proofs.cells.set_outputs.Goals as goal

none : (l : List ℕ) → length l ≡ 0 → l ≡ []
none [] e = refl
none (x ∷ l) e = absurd (omega (arith, e))

unset : (C : StoredCell) (x : ℕ) (outs : List ℕ) → length C.outs ≡ 0 → outputs_after C outs x ≡ outs
unfolding outputs_after set_outputs
unset C x outs e = ap (λ (l : List ℕ). set_outputs outs l (x / 2 ^ C.lower)) (none C.outs e)

pub set_bits-requires : goal.set_bits-requires
set_bits-requires c =
    let pre = c.requires in
    (pre.0, pre.1, pre.2, pre.3, ap₂ (λ (x y : ℕ). x + y) pre.4 pre.5)

pub returns-else-c-ne0 : goal.returns-else-c-ne0
returns-else-c-ne0 c =
    let a = c.args in
    let C = cell_at a.records.now (ended_by a.records.now a.last) in
    let n : length C.outs ≡ 0 = sym c.requires.4 ∙ c.if-c-ne0.false in
    λ some each p q e. e ∙ sym (ap₂ told_by (unset C a.seen.some some n) (unset C a.seen.each each n))
