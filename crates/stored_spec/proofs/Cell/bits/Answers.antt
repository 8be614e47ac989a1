-- `Cell::bits` meets its contract.
-- Assumes nothing.
use mathlib.Core.Path.{sym, ◌∙◌}
use Rattle.stored_spec.proofs.CellSizes.{few-inputs, few_bits, bits_are, bits_none}
use native.Mathlib.Omega.{arith}
use Rattle.stored_spec.proofs.Cell.bits.Goals as goal

pub overflow_shl-result : goal.overflow_shl-result
overflow_shl-result c = omega (arith, few-inputs c.args.self (sym c.fits.ensures ∙ c.if-fits.true))

pub overflow_mul-result : goal.overflow_mul-result
overflow_mul-result c = omega (arith, few_bits c.args.self (sym c.fits.ensures ∙ c.if-fits.true))

pub returns-then-fits : goal.returns-then-fits
returns-then-fits c = bits_are c.args.self (sym c.fits.ensures ∙ c.if-fits.true)

pub returns : goal.returns
returns c = bits_none c.args.self (sym c.fits.ensures ∙ c.if-fits.false)
