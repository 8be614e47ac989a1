-- `bank::blocks::Blocks::cell_counts` meets its contract.
-- Assumes nothing.
use mathlib.Core.Path.{◌≡◌, sym, ◌∙◌}
use native.Mathlib.Omega.{arith}
use Rattle.laws.proofs.Puts.{puts_none, puts-next}
use Rattle.stored_spec.specs.StoredForm.{cell_count}
use Rattle.bank_spec.specs.State.{records_of}
use Rattle.bank.proofs.blocks.CountedCells.{counts_stored}
use Rattle.bank.proofs.blocks.Blocks.cell_counts.Goals as goal

pub loop-b-init : goal.loop-b-init
loop-b-init c = sym (puts_none (λ i. cell_count (records_of c.args.self.bank.now i)) _)

pub loop-b-preserved : goal.loop-b-preserved
loop-b-preserved c =
    let l = c.loop-b in
    puts-next (λ i. cell_count (records_of c.args.self.bank.now i)) l.b _ l.counts _ l.invariant c.cells.ensures.0

pub returns : goal.returns
returns c =
    let l = c.loop-b in
    let k = c.args.self.bank.now in
    let e : l.b ≡ k.count = omega arith in
    rw e at l.invariant ∙ counts_stored k k.count c.args.self.few
