-- `sheet::refusal` meets its contract.
-- Assumes nothing.
use mathlib.Core.Path.{ap}
use Rattle.sheet_spec.specs.Table.{Tabled}
use Rattle.sheet.proofs.refusal.Goals as goal

pub returns : goal.returns
returns c = ap (λ (t : Tabled). t.refusal) c.fill_table.ensures
