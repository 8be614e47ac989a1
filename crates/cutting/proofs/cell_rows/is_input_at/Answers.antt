-- `cutting::cell_rows::is_input_at` meets its contract.
-- Assumes nothing.
use mathlib.Core.Path.{◌∙◌, ap, ap₂}
use Prim.Native.Nat.{ℕ, suc, ◌+◌, ◌-◌}
use lib.ListN.{length, get_or}
use Rattle.sheet_spec.specs.Job.{is_input}
use Rattle.cutting.proofs.cell_rows.is_input_at.Goals as goal

pub returns : goal.returns
returns c =
    let a = c.args in
    let l = a.span.now.diagram.order.now in
    c.is_input_at.ensures
    ∙ ap (λ (h : ℕ). is_input (get_or l (length l - suc h) 0)) (ap₂ ◌+◌ c.from.ensures c.from-2.ensures)
