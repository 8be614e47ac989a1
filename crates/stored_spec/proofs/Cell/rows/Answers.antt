-- `Cell::rows` meets its contract.
-- Assumes nothing.
use mathlib.Core.Path.{sym, ◌∙◌}
use Rattle.stored_spec.proofs.CellSizes.{few-inputs, rows_are, rows_none}
use native.Mathlib.Omega.{arith}
use Rattle.stored_spec.proofs.Cell.rows.Goals as goal

pub overflow_shl-result : goal.overflow_shl-result
overflow_shl-result c = omega (arith, few-inputs c.args.self (sym c.fits.ensures ∙ c.if-fits.true))

pub returns-then-fits : goal.returns-then-fits
returns-then-fits c = rows_are c.args.self (sym c.fits.ensures ∙ c.if-fits.true)

pub returns : goal.returns
returns c = rows_none c.args.self (sym c.fits.ensures ∙ c.if-fits.false)
