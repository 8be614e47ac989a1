-- `evaluation::gather::with_row` keeps what one row more gives.
-- Assumes nothing.
use mathlib.Core.Path.{◌∙◌, ap, ap₂}
use Prim.Native.Nat.{ℕ}
use native.Mathlib.Omega.{arith}
use lib.Bits.{bit_and, and_le_r}
use Rattle.evaluation_spec.specs.RailSets.{with_rail, with_row}
use Rattle.evaluation.specs.Agreeing.{gathered_of}
use Rattle.evaluation.proofs.gather.with_row.Goals as goal

pub mark-requires : goal.mark-requires
mark-requires c = omega (arith, and_le_r c.from.result c.args.low, c.requires)

pub returns : goal.returns
unfolding with_row
returns c =
    let a = c.args in
    let e = ap (λ (y : ℕ). with_rail a.next.now (bit_and y a.low)) c.from.ensures in
    ap₂ gathered_of c.with.ensures (c.mark.ensures ∙ e)
